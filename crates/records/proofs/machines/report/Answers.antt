-- `report` puts the parts one behind the other.
use Rattle.page.proofs.Adding.{◌▸◌}
use Rattle.records.specs.Told.{report_lines}
use Rattle.records.proofs.machines.report.Goals as goal

pub returns : goal.returns
unfolding report_lines
returns c = c.field.ensures ▸ c.sheet.ensures ▸ c.ended.ensures
