-- `begin_of` goes back byte for byte: the line stays the same until an LF or the front.
use mathlib.Core.Path.{◌∙◌}
use native.Mathlib.Omega.{arith}
use Prim.Native.Nat.{◌-◌}
use Rattle.pairs.proofs.Spans.{back_here, back_on, back_all}
use Rattle.pairs.proofs.begin_of.Goals as goal

pub returns-then-sheet-i-eq10 : goal.returns-then-sheet-i-eq10
returns-then-sheet-i-eq10 c =
    omega arith ∙ back_here {k = c.loop-i.i - 1} c.loop-i.invariant (omega arith) c.if-sheet-i-eq10.true

pub loop-i-preserved : goal.loop-i-preserved
loop-i-preserved c = back_on c.loop-i.invariant (omega arith) c.if-sheet-i-eq10.false

pub returns : goal.returns
returns c = omega arith ∙ back_all c.loop-i.invariant (omega arith)
