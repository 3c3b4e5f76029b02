-- The functions that are left.
use Rattle.std.proofs.Common.{◌-◌}
use Rattle.resolver.proofs.+from.Given as goal

abbrev pub decreases-from : goal.decreases-from
decreases-from l = l.defs - l.k
