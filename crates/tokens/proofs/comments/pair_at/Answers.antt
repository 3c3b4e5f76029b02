-- `pair_at` reads the byte behind where the first is that of a mark.
use native.Mathlib.Omega.{arith}
use Rattle.tokens.proofs.Views.{text_long}
use Rattle.tokens.proofs.comments.pair_at.Goals as goal

pub overflow_add-at : goal.overflow_add-at
overflow_add-at c =
    let a = c.args in
    omega (arith, c.requires, text_long a.text.now, c.well_formed)

pub overflow_add-at-in-42-1 : goal.overflow_add-at-in-42-1
overflow_add-at-in-42-1 c =
    let a = c.args in
    omega (arith, c.requires, text_long a.text.now, c.well_formed)
