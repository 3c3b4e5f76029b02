-- The functions from `k` on do not have the name.
use mathlib.Core.Path.{sym, ap, ◌∙◌}
use native.Mathlib.Omega.{arith}
use Rattle.std.specs.Prelude.{Some}
use Rattle.layout.proofs.FunctionLaws.{function_here, function_past, function_none}
use Rattle.layout.proofs.functions.find.Goals as goal

pub returns-then-name-number : goal.returns-then-name-number
returns-then-name-number c =
    let e = sym c.name.ensures ∙ c.if-name-number.true in
    ap Some c.row.ensures ∙ sym (c.loop-k.invariant ∙ function_here _ _ (omega (arith, c.loop-k-test.true)) e)

pub loop-k-preserved : goal.loop-k-preserved
loop-k-preserved c =
    c.loop-k.invariant
    ∙ function_past _ _ (omega (arith, c.loop-k-test.true)) (λ e. c.if-name-number.false (c.name.ensures ∙ e))

pub returns : goal.returns
returns c =
    sym (c.loop-k.invariant ∙ function_none _ _ (omega (arith, c.loop-k-test.false)))
