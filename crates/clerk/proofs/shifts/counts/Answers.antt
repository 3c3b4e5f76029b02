-- `counts` puts the parts one behind the other.
use Rattle.page.proofs.Adding.{◌▸◌}
use Rattle.clerk.specs.Shifts.{count_lines}
use Rattle.clerk.proofs.shifts.counts.Goals as goal

pub returns : goal.returns
unfolding count_lines
returns c = c.count.ensures ▸ c.count-2.ensures ▸ c.stops.ensures ▸ c.count-3.ensures
