use Rattle.profiles.proofs.PassLaws.{Passing}
use Rattle.profiles.proofs.passes.pass.Given as goal

abbrev pub invariant-loop-i : goal.invariant-loop-i
invariant-loop-i l = Passing l.initial.table l.table l.last l.own_name l.seen l.i
