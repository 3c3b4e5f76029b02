use Rattle.tally.proofs.Combined.{stops_added}
use native.Mathlib.Omega.{arith}
use Rattle.tally.proofs.combining.stopped.Goals as goal

pub returns : goal.returns
returns c = (
  stops_added c.args.stops c.three-a.ensures.0 c.three-b.ensures.0 c.three-c.ensures.0,
  omega (arith, c.three-a.ensures.1, c.three-b.ensures.1, c.three-c.ensures.1),
)
