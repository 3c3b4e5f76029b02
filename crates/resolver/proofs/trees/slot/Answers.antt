-- The slots from `k` on do not have the name.
use mathlib.Core.Path.{sym, ◌∙◌}
use native.Mathlib.Omega.{arith}
use Rattle.resolver.proofs.Writing.{slot_here, slot_past, slot_none}
use Rattle.resolver.proofs.trees.slot.Goals as goal

pub returns-then-name-number : goal.returns-then-name-number
returns-then-name-number c =
    sym (c.loop-k.invariant ∙ slot_here _ _ (omega (arith, c.loop-k-test.true)) (sym c.name.ensures ∙ c.if-name-number.true))

pub loop-k-preserved : goal.loop-k-preserved
loop-k-preserved c =
    c.loop-k.invariant
    ∙ slot_past _ _ (omega (arith, c.loop-k-test.true)) (λ e. c.if-name-number.false (c.name.ensures ∙ e))

pub returns : goal.returns
returns c = sym (c.loop-k.invariant ∙ slot_none _ _ (omega (arith, c.loop-k-test.false)))
