-- The parameters in front of `i` are bound.
use Rattle.resolver.proofs.Framing.{Taken}
use Rattle.resolver.proofs.parameters.Given as goal

abbrev pub invariant-loop-i : goal.invariant-loop-i
invariant-loop-i l = Taken l.initial.table l.table l.row l.count l.i
