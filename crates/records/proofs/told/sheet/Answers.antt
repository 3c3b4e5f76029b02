-- `sheet` puts the parts one behind the other.
use Rattle.page.proofs.Adding.{◌▸◌}
use Rattle.records.specs.Told.{sheet_line}
use Rattle.records.proofs.told.sheet.Goals as goal

pub returns : goal.returns
unfolding sheet_line
returns c = c.put.ensures ▸ c.name.ensures ▸ c.put-2.ensures
