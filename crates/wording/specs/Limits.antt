-- What is told of units where nothing is run.
use Rattle.std.specs.Prelude.{None}
use Rattle.wording.specs.declared.limits.Limits.{Limits}

abbrev pub no_limits : Limits
no_limits = record { allowance = 0; most = None }
