use mathlib.Core.Path.{refl}
use Rattle.language.specs.Meaning.{type_number}
use Rattle.language.specs.Trees.{bool, TyDiscrete}
use Rattle.language.proofs.Executable.Checks.{after_ok}
use Rattle.language.proofs.Executable.Checker.{infer}
use Rattle.rules.specs.Asked.{tells_type}
use Rattle.rules.proofs.TellLaws.{fault_need, tells_need, tells_from}
use Rattle.rules.proofs.OperatorLaws.{is_type, isnt_type}
use Rattle.rules.proofs.operators.branches.Goals as goal

pub returns-in_err-need : goal.returns-in_err-need
unfolding infer type_number
returns-in_err-need c =
    λ Δ Γ a b d v t u e k f p g q. tells_from (after_ok _ e (after_ok _ f (after_ok _ g refl)))
    (fault_need (TyDiscrete v bool) _ c.from_residual.ensures.1 c.in_err-need.ensures.1
    (isnt_type v bool k refl c.in_err-need.ensures.0))

pub returns-in_err-need-2 : goal.returns-in_err-need-2
unfolding infer type_number
returns-in_err-need-2 c =
    λ Δ Γ a b d v t u e k f p g q. tells_from (after_ok _ e (after_ok _ f (after_ok _ g refl)))
    (tells_need _ _ (TyDiscrete v bool) _ (is_type v bool k refl c.in_ok-need.ensures)
    (fault_need (TyDiscrete t u) _ c.from_residual-in_err-need-2.ensures.1 c.in_err-need-2.ensures.1
    (isnt_type t u p q c.in_err-need-2.ensures.0)))

pub returns : goal.returns
unfolding infer type_number
returns c =
    λ Δ Γ a b d v t u e k f p g q. tells_from (after_ok _ e (after_ok _ f (after_ok _ g refl)))
    (tells_need _ _ (TyDiscrete v bool) _ (is_type v bool k refl c.in_ok-need.ensures)
    (tells_need _ _ (TyDiscrete t u) _ (is_type t u p q c.in_ok-need-2.ensures) (tells_type p)))
