-- The measure of `refs`: how many tokens are left.
use Rattle.std.proofs.Common.{◌-◌}
use Rattle.reader.proofs.types.+refs.Given as goal

abbrev pub decreases-refs : goal.decreases-refs
decreases-refs l = l.count - l.at
