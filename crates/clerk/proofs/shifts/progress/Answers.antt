-- `progress` puts the parts one behind the other.
use Rattle.page.proofs.Adding.{◌▸◌}
use Rattle.clerk.specs.Shifts.{progress_line}
use Rattle.clerk.proofs.shifts.progress.Goals as goal

pub returns : goal.returns
unfolding progress_line
returns c = c.put.ensures ▸ c.decimal.ensures ▸ c.put-2.ensures
