use mathlib.Core.Path.{ap, ◌∙◌}
use Rattle.std.proofs.Common.{arith}
use Rattle.std.proofs.lemmas.Bool.Decides.{nat_tests}
use Rattle.std.specs.Prelude.{Err}
use Rattle.rules.proofs.TellLaws.{handed_on}
use Rattle.rules.proofs.OperatorLaws.{between_assign, between_fine, between_other}
use Rattle.rules.proofs.operators.binary.Goals as goal

pub returns-then-kind-eq-BECOMES : goal.returns-then-kind-eq-BECOMES
returns-then-kind-eq-BECOMES c =
    between_assign _ c.if-kind-eq-BECOMES.true c.assigned.ensures

pub returns-in_err-need : goal.returns-in_err-need
returns-in_err-need c =
    between_other _ c.if-kind-eq-BECOMES.false c.operand-wanted.ensures (λ a b. grind (arith, nat_tests))
    (handed_on c.from_residual.ensures.1 ∙ ap Err c.in_err-need.ensures.1)

pub returns : goal.returns
returns c =
    between_fine _ c.if-kind-eq-BECOMES.false c.operand-wanted.ensures c.result.ensures
    (grind (arith, nat_tests)) (grind (arith, nat_tests))
