use mathlib.Core.Path.{sym, ◌∙◌}
use native.Mathlib.Decide.{ℕ_discrete}
use borrow.Author.Tests.{eqb-true, eqb-false}
use Rattle.language.proofs.Executable.Checker.{same_types}
use Rattle.rules.specs.Asked.{tells_type}
use Rattle.rules.proofs.TellLaws.{fault_need, tells_need}
use Rattle.rules.proofs.operators.matched.Goals as goal

pub returns-in_err-need : goal.returns-in_err-need
returns-in_err-need c =
    λ s us a g k d. fault_need (ℕ_discrete _ _) _ c.from_residual.ensures.1 c.in_err-need.ensures.1
    (λ e. eqb-false _ _ c.in_err-need.ensures.0 (k ∙ e ∙ sym a))

pub returns-in_err-need-2 : goal.returns-in_err-need-2
returns-in_err-need-2 c =
    λ s us a g k d. let e = sym k ∙ eqb-true _ _ c.in_ok-need.ensures ∙ a in
    tells_need _ _ (ℕ_discrete _ _) _ e
    (fault_need (same_types us s.takes) _ c.from_residual-in_err-need-2.ensures.1 c.in_err-need-2.ensures.1
    ((d e).1 c.in_err-need-2.ensures.0))

pub returns : goal.returns
returns c =
    λ s us a g k d. let e = sym k ∙ eqb-true _ _ c.in_ok-need.ensures ∙ a in
    tells_need _ _ (ℕ_discrete _ _) _ e
    (tells_need _ _ (same_types us s.takes) _ ((d e).0 c.in_ok-need-2.ensures) (tells_type g))
