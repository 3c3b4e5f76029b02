-- `find` seeks byte by byte.
use Rattle.page.proofs.Named.{Seeks}
use Rattle.page.proofs.fields.find.Given as goal

abbrev pub invariant-loop-i : goal.invariant-loop-i
invariant-loop-i l = Seeks l.name l.text l.fresh l.i
