-- `way_end` goes from fork to fork, each behind the one before it.
use Prim.Native.Nat.{◌-◌}
use Rattle.tokens.proofs.Planting.{Way}
use Rattle.tokens.specs.Forks.{STARTS_AT}
use Rattle.tokens.specs.Parts.{part_of}
use Rattle.tokens.proofs.forks.way_end.Given as goal

abbrev pub invariant-loop-to : goal.invariant-loop-to
invariant-loop-to l = Way l.table (part_of l.name) l.at l.to

abbrev pub decreases-loop-to : goal.decreases-loop-to
decreases-loop-to l = STARTS_AT - l.at
