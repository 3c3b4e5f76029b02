use Rattle.checker.proofs.TakingLaws.{Taking}
use Rattle.checker.proofs.programs.parameters.Given as goal

abbrev pub invariant-loop-k : goal.invariant-loop-k
invariant-loop-k l = Taking l.initial.table l.table l.row l.count l.k
