use mathlib.Core.Path.{refl}
use Rattle.language.specs.Meaning.{type_number}
use Rattle.language.specs.Trees.{unit, TyDiscrete}
use Rattle.language.proofs.Executable.Checks.{after_ok}
use Rattle.language.proofs.Executable.Checker.{infer}
use Rattle.rules.specs.Asked.{tells_type}
use Rattle.rules.proofs.TellLaws.{fault_need, tells_need, tells_from}
use Rattle.rules.proofs.OperatorLaws.{is_type, isnt_type}
use Rattle.rules.proofs.operators.counted.Goals as goal

pub returns-in_err-need : goal.returns-in_err-need
unfolding infer
returns-in_err-need c =
    λ w Δ Γ x th es e us t h n s g m. tells_from (after_ok _ h (after_ok _ g refl))
    (fault_need _ _ c.from_residual.ensures.1 c.in_err-need.ensures.1 ((c.bounded.ensures w us n s).1 c.in_err-need.ensures.0))

pub returns-in_err-need-2 : goal.returns-in_err-need-2
unfolding infer type_number
returns-in_err-need-2 c =
    λ w Δ Γ x th es e us t h n s g m. tells_from (after_ok _ h (after_ok _ g refl))
    (tells_need _ _ _ _ ((c.bounded.ensures w us n s).0 c.in_ok-need.ensures)
    (fault_need (TyDiscrete t unit) _ c.from_residual-in_err-need-2.ensures.1 c.in_err-need-2.ensures.1
    (isnt_type t unit m refl c.in_err-need-2.ensures.0)))

pub returns : goal.returns
unfolding infer type_number
returns c =
    λ w Δ Γ x th es e us t h n s g m. tells_from (after_ok _ h (after_ok _ g refl))
    (tells_need _ _ _ _ ((c.bounded.ensures w us n s).0 c.in_ok-need.ensures)
    (tells_need _ _ (TyDiscrete t unit) _ (is_type t unit m refl c.in_ok-need-2.ensures) (tells_type refl)))
