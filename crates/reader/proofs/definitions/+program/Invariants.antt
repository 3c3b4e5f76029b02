-- The measure of `program`: how many tokens are left.
use Rattle.std.proofs.Common.{◌-◌}
use Rattle.reader.proofs.definitions.+program.Given as goal

abbrev pub decreases-program : goal.decreases-program
decreases-program l = l.count - l.at
