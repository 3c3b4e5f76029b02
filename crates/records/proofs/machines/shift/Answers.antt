-- `shift` puts the parts one behind the other.
use Rattle.page.proofs.Adding.{◌▸◌}
use Rattle.records.specs.Machines.{shift_lines}
use Rattle.records.proofs.machines.shift.Goals as goal

pub returns : goal.returns
unfolding shift_lines
returns c =
    c.field.ensures ▸ c.sheet.ensures ▸ c.outcome.ensures ▸ c.field-2.ensures ▸ c.counts.ensures ▸ c.amounts.ensures
