-- The loop's invariant: one of the functions that are left suits exactly where one of all does.
use mathlib.Core.Path.{sym, ◌∙◌}
use native.Mathlib.Omega.{arith}
use Rattle.outlines.proofs.Matched.{any_here, any_later, any_none}
use Rattle.outlines.proofs.any_suits.Goals as goal

pub returns-then-suits : goal.returns-then-suits
returns-then-suits c =
    sym (c.loop-k.invariant.1 ∙ any_here _ _ _ _ _ c.loop-k-test.true c.suits.ensures c.if-suits.true)

pub loop-k-preserved : goal.loop-k-preserved
loop-k-preserved c = (
  omega (arith, c.loop-k-test.true),
  c.loop-k.invariant.1 ∙ any_later _ _ _ _ _ c.loop-k-test.true c.suits.ensures c.if-suits.false,
)

pub returns : goal.returns
returns c =
    sym (c.loop-k.invariant.1 ∙ any_none _ _ _ _ _ c.loop-k-test.false)
