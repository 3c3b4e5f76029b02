-- `ran` puts the parts one behind the other.
use Rattle.page.proofs.Adding.{◌▸◌}
use Rattle.records.specs.Told.{ran_lines}
use Rattle.records.proofs.told.ran.Goals as goal

pub returns : goal.returns
unfolding ran_lines
returns c = c.field.ensures ▸ c.field-2.ensures ▸ c.bound.ensures ▸ c.field-3.ensures
