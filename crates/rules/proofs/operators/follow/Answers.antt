use mathlib.Core.Path.{refl}
use Rattle.language.specs.Meaning.{type_number}
use Rattle.language.specs.Trees.{unit, TyDiscrete}
use Rattle.rules.specs.Asked.{tells_type}
use Rattle.rules.proofs.TellLaws.{fault_need, tells_need}
use Rattle.rules.proofs.OperatorLaws.{is_type, isnt_type}
use Rattle.rules.proofs.operators.follow.Goals as goal

pub returns-in_err-need : goal.returns-in_err-need
unfolding type_number
returns-in_err-need c =
    λ t u p q. fault_need (TyDiscrete t unit) _ c.from_residual.ensures.1 c.in_err-need.ensures.1
    (isnt_type t unit p refl c.in_err-need.ensures.0)

pub returns : goal.returns
unfolding type_number
returns c =
    λ t u p q. tells_need _ _ (TyDiscrete t unit) _ (is_type t unit p refl c.in_ok-need.ensures) (tells_type q)
