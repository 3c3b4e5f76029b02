use Rattle.profiles.proofs.ProgramLaws.{Counting}
use Rattle.profiles.proofs.reckon.Given as goal

abbrev pub invariant-loop-k : goal.invariant-loop-k
invariant-loop-k l = Counting l.initial.table l.table l.program l.k
