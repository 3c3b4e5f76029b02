-- `end_of` goes on byte for byte: the line stays the same until an LF or the sheet's end.
use Rattle.pairs.proofs.Spans.{On}
use Rattle.pairs.proofs.end_of.Given as goal

abbrev pub invariant-loop-j : goal.invariant-loop-j
invariant-loop-j l = On l.sheet l.at l.j
