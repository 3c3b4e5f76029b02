-- `report` puts the parts one behind the other.
use Rattle.page.proofs.Adding.{◌▸◌}
use Rattle.clerk.specs.Shifts.{shift_text}
use Rattle.clerk.proofs.shifts.report.Goals as goal

pub returns : goal.returns
unfolding shift_text
returns c = c.counts.ensures ▸ c.amounts.ensures
