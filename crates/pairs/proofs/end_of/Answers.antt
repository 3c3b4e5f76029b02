-- `end_of` goes on byte for byte: the line stays the same until an LF or the sheet's end.
use mathlib.Core.Path.{◌∙◌}
use native.Mathlib.Omega.{arith}
use Rattle.pairs.proofs.Spans.{on_here, on_more, on_all}
use Rattle.pairs.proofs.end_of.Goals as goal

pub returns-then-sheet-j-eq10 : goal.returns-then-sheet-j-eq10
returns-then-sheet-j-eq10 c = on_here c.loop-j.invariant (omega arith) c.if-sheet-j-eq10.true

pub loop-j-preserved : goal.loop-j-preserved
loop-j-preserved c = on_more c.loop-j.invariant (omega arith) c.if-sheet-j-eq10.false

pub returns : goal.returns
returns c = omega arith ∙ on_all c.loop-j.invariant (omega arith)
