use Rattle.checker.proofs.ProgramLaws.{Underway}
use Rattle.checker.proofs.programs.program.Given as goal

abbrev pub invariant-loop-k : goal.invariant-loop-k
invariant-loop-k l = Underway l.initial.table l.table l.program l.k
