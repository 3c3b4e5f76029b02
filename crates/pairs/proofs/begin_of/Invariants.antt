-- `begin_of` goes back byte for byte: the line stays the same until an LF or the front.
use Rattle.pairs.proofs.Spans.{Back}
use Rattle.pairs.proofs.begin_of.Given as goal

abbrev pub invariant-loop-i : goal.invariant-loop-i
invariant-loop-i l = Back l.sheet l.at l.i
