-- `up_to` reads one that fits.
use mathlib.Core.Path.{sym, ◌∙◌}
use native.Mathlib.Omega.{arith}
use Rattle.page.proofs.Spelling.{up_to_small}
use Rattle.page.proofs.amounts.up_to.Goals as goal

pub overflow_cast-result : goal.overflow_cast-result
overflow_cast-result c =
    let small = up_to_small c.args.most c.args.word.now (sym c.within.ensures ∙ c.in_ok-n.was) in
    record { fits = omega arith }
