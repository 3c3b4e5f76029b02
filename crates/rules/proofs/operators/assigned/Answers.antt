use mathlib.Core.Path.{refl}
use Rattle.std.proofs.Common.{arith}
use Rattle.std.proofs.lemmas.Bool.Decides.{nat_tests}
use Rattle.language.specs.Meaning.{type_number}
use Rattle.language.specs.Trees.{unit}
use Rattle.rules.proofs.TellLaws.{type_is, fault_told_as}
use Rattle.rules.proofs.OperatorLaws.{assign_some, assign_none}
use Rattle.rules.proofs.operators.assigned.Goals as goal

pub returns-in_err-need : goal.returns-in_err-need
returns-in_err-need c =
    λ t u p q. fault_told_as c.from_residual.ensures.1 c.in_err-need.ensures.1 (assign_none _ t u p q (λ h e. grind (arith, nat_tests)))

pub returns : goal.returns
unfolding type_number
returns c =
    λ t u p q. type_is unit (assign_some _ t u p q (grind (arith, nat_tests)) (grind (arith, nat_tests))) refl
