-- `counts` puts the parts one behind the other.
use Rattle.page.proofs.Adding.{◌▸◌}
use Rattle.records.specs.Machines.{count_lines}
use Rattle.records.proofs.machines.counts.Goals as goal

pub returns : goal.returns
unfolding count_lines
returns c = c.field.ensures ▸ c.field-2.ensures ▸ c.stops.ensures ▸ c.field-3.ensures
