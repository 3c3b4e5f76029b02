-- `put_hex` goes byte by byte: so far the digits of the first ones are put.
use Rattle.writer.proofs.Digits.{Putting}
use Rattle.writer.proofs.storing.put_hex.Given as goal

abbrev pub invariant-loop-i : goal.invariant-loop-i
invariant-loop-i l = Putting l.source l.from l.to l.initial.out l.out l.at l.end l.i
