use mathlib.Core.Path.{refl}
use Rattle.language.specs.Meaning.{type_number}
use Rattle.language.specs.Trees.{bool, unit, TyDiscrete}
use Rattle.rules.specs.Asked.{tells_type}
use Rattle.rules.proofs.TellLaws.{fault_need, tells_need}
use Rattle.rules.proofs.OperatorLaws.{is_type, isnt_type}
use Rattle.rules.proofs.operators.repeat.Goals as goal

pub returns-in_err-need : goal.returns-in_err-need
unfolding type_number
returns-in_err-need c =
    λ t u p q. fault_need (TyDiscrete t bool) _ c.from_residual.ensures.1 c.in_err-need.ensures.1
    (isnt_type t bool p refl c.in_err-need.ensures.0)

pub returns-in_err-need-2 : goal.returns-in_err-need-2
unfolding type_number
returns-in_err-need-2 c =
    λ t u p q. tells_need _ _ (TyDiscrete t bool) _ (is_type t bool p refl c.in_ok-need.ensures)
    (fault_need (TyDiscrete u unit) _ c.from_residual-in_err-need-2.ensures.1 c.in_err-need-2.ensures.1
    (isnt_type u unit q refl c.in_err-need-2.ensures.0))

pub returns : goal.returns
unfolding type_number
returns c =
    λ t u p q. tells_need _ _ (TyDiscrete t bool) _ (is_type t bool p refl c.in_ok-need.ensures)
    (tells_need _ _ (TyDiscrete u unit) _ (is_type u unit q refl c.in_ok-need-2.ensures) (tells_type refl))
