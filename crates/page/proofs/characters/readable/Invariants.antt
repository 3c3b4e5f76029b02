-- `readable` goes over the bytes: what is left of them decides, from what is due.
use Rattle.page.proofs.Letters.{Going}
use Rattle.page.proofs.characters.readable.Given as goal

abbrev pub invariant-loop-b : goal.invariant-loop-b
invariant-loop-b l = Going l.bytes l.b-index l.due.bytes l.due.least l.due.most
