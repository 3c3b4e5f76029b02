-- The measure of `params`: how many tokens are left.
use Rattle.std.proofs.Common.{◌-◌}
use Rattle.reader.proofs.definitions.+params.Given as goal

abbrev pub decreases-params : goal.decreases-params
decreases-params l = l.count - l.at
