use Rattle.shift.proofs.Going.{SoFar}
use Rattle.shift.proofs.feeding.bytes.Given as goal

abbrev pub invariant-loop-b : goal.invariant-loop-b
invariant-loop-b l =
    SoFar l.edition l.book l.piece l.program l.initial.table l.initial.work l.initial.out l.initial.so_far l.table l.work l.out l.so_far l.b-index
