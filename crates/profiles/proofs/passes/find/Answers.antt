use mathlib.Core.Path.{sym, ◌∙◌}
use Rattle.profiles.proofs.RowLaws.{body_here, body_past, body_none}
use native.Mathlib.Omega.{arith}
use Rattle.profiles.proofs.passes.find.Goals as goal

pub returns-then-name : goal.returns-then-name
returns-then-name c =
    c.get.ensures
    ∙ sym (c.loop-k.invariant ∙ body_here _ _ (omega (arith, c.loop-k-test.true)) (sym c.name.ensures ∙ c.if-name.true))

pub loop-k-preserved : goal.loop-k-preserved
loop-k-preserved c =
    c.loop-k.invariant ∙ body_past _ _ (omega (arith, c.loop-k-test.true)) (λ e. c.if-name.false (c.name.ensures ∙ e))

pub returns : goal.returns
returns c = sym (c.loop-k.invariant ∙ body_none _ _ (omega (arith, c.loop-k-test.false)))
