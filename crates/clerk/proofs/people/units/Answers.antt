-- `units` puts the parts one behind the other.
use Rattle.page.proofs.Adding.{◌▸◌}
use Rattle.clerk.specs.Reports.{units_line}
use Rattle.clerk.proofs.people.units.Goals as goal

pub returns : goal.returns
unfolding units_line
returns c =
    c.put.ensures ▸ c.decimal.ensures ▸ c.put-2.ensures ▸ c.decimal-2.ensures ▸ c.bound.ensures ▸ c.put-3.ensures
