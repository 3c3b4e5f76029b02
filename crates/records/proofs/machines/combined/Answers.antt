-- `combined` puts the parts one behind the other.
use Rattle.page.proofs.Adding.{◌▸◌}
use Rattle.records.specs.Machines.{combined_lines}
use Rattle.records.proofs.machines.combined.Goals as goal

pub returns : goal.returns
unfolding combined_lines
returns c = c.field.ensures ▸ c.together.ensures ▸ c.counts.ensures ▸ c.amounts.ensures
