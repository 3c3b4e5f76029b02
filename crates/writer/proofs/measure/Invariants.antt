-- `measure` adds up the tokens: so far the first ones.
use Rattle.writer.proofs.Steps.{Measured}
use Rattle.writer.proofs.measure.Given as goal

abbrev pub invariant-loop-i : goal.invariant-loop-i
invariant-loop-i l = Measured l.table l.count l.i l.long
