-- `counted` puts the parts one behind the other.
use Rattle.page.proofs.Adding.{◌▸◌}
use Rattle.clerk.specs.Reports.{counted_line}
use Rattle.clerk.proofs.people.counted.Goals as goal

pub returns : goal.returns
unfolding counted_line
returns c = c.put.ensures ▸ c.decimal.ensures ▸ c.put-2.ensures
