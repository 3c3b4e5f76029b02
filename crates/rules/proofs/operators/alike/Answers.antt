use Rattle.language.specs.Trees.{TyDiscrete}
use Rattle.language.proofs.Executable.Checks.{told_some, told_none}
use Rattle.rules.proofs.TellLaws.{type_is, fault_told_as}
use Rattle.rules.proofs.OperatorLaws.{is_type, isnt_type, if_is, if_not}
use Rattle.rules.proofs.operators.alike.Goals as goal

pub returns-in_err-need : goal.returns-in_err-need
returns-in_err-need c =
    λ t u p q. fault_told_as c.from_residual.ensures.1 c.in_err-need.ensures.1
    (told_none _ _ (if_not (TyDiscrete t u) u (isnt_type t u p q c.in_err-need.ensures.0)))

pub returns : goal.returns
returns c =
    λ t u p q. type_is u (told_some _ _ (if_is (TyDiscrete t u) u (is_type t u p q c.in_ok-need.ensures))) q
