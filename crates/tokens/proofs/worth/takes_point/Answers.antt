-- `takes_point` asks where the digits began, then for the point, and then whether it is the number's own.
use borrow.Author.Tests.{ne_eqb}
use lib.Dec.{lit<}
use mathlib.Core.Path.{sym, ◌∙◌}
use native.Mathlib.Omega.{arith}
use Rattle.language.proofs.Text.Spellings.{byte_inside}
use Rattle.tokens.proofs.FoundTokens.{point_none, point_other, point_some}
use Rattle.tokens.proofs.Views.{text_long}
use Rattle.tokens.specs.Shown.{text_of}
use Rattle.tokens.proofs.worth.takes_point.Goals as goal

pub returns-then-from-at : goal.returns-then-from-at
returns-then-from-at c =
    point_none _ _ _ _ _ c.if-from-at.true

pub overflow_add-end : goal.overflow_add-end
overflow_add-end c =
    let a = c.args in
    let inside = byte_inside (text_of a.text.now) a.end 46 (sym c.byte.ensures ∙ c.if-byte-eq46.true) (lit< tt) in
    omega (arith, inside, text_long a.text.now, c.well_formed)

pub returns-then-byte-eq46 : goal.returns-then-byte-eq46
returns-then-byte-eq46 c =
    point_some _ _ _ _ _ c.if-from-at.false c.byte.ensures c.if-byte-eq46.true c.byte-then-byte-eq46.ensures
    c.points.ensures

pub returns-else-byte-eq46 : goal.returns-else-byte-eq46
returns-else-byte-eq46 c =
    ne_eqb _ _ c.if-byte-eq46.false ∙ point_other _ _ _ _ _ c.if-from-at.false c.byte.ensures c.if-byte-eq46.false
