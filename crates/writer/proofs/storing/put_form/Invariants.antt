-- `put_form` goes token by token behind the count: so far the lines of the first ones are put.
use Rattle.writer.proofs.Forms.{Lining}
use Rattle.writer.proofs.storing.put_form.Given as goal

abbrev pub invariant-loop-i : goal.invariant-loop-i
invariant-loop-i l = Lining l.source l.table l.count l.initial.out l.out l.initial.at l.at l.i
