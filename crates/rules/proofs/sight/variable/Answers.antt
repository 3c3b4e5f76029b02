use mathlib.Core.Path.{sym, ap, ◌∙◌}
use Rattle.std.specs.Prelude.{Some}
use Rattle.rules.proofs.SightLaws.{variable_here, variable_past, variable_none}
use native.Mathlib.Omega.{arith}
use Rattle.rules.proofs.sight.variable.Goals as goal

pub returns-then-name : goal.returns-then-name
returns-then-name c =
    ap Some c.type_number.ensures
    ∙ sym (c.loop-k.invariant ∙ variable_here _ _ (omega (arith, c.loop-k-test.true)) (sym c.name.ensures ∙ c.if-name.true))

pub loop-k-preserved : goal.loop-k-preserved
loop-k-preserved c =
    c.loop-k.invariant
    ∙ variable_past _ _ (omega (arith, c.loop-k-test.true)) (λ e. c.if-name.false (c.name.ensures ∙ e))

pub returns : goal.returns
returns c =
    sym (c.loop-k.invariant ∙ variable_none _ _ (omega (arith, c.loop-k-test.false)))
