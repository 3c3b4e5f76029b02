-- `count` puts the parts one behind the other.
use Rattle.page.proofs.Adding.{◌▸◌}
use Rattle.clerk.specs.Shifts.{count_line}
use Rattle.clerk.proofs.shifts.count.Goals as goal

pub returns : goal.returns
unfolding count_line
returns c = c.put.ensures ▸ c.decimal.ensures ▸ c.put-2.ensures
