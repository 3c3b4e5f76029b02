-- `put_all` goes token by token: so far the first ones stand at the front.
use Rattle.writer.proofs.Steps.{Laying}
use Rattle.writer.proofs.put_all.Given as goal

abbrev pub invariant-loop-i : goal.invariant-loop-i
invariant-loop-i l = Laying l.source l.table l.count l.initial.out l.out l.at l.i
