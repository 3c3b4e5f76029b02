-- `field` puts the parts one behind the other.
use Rattle.page.proofs.Adding.{◌▸◌}
use Rattle.wording.specs.Fields.{number_line}
use Rattle.wording.proofs.fields.field.Goals as goal

pub returns : goal.returns
unfolding number_line
returns c = c.put.ensures ▸ c.put-2.ensures ▸ c.decimal.ensures ▸ c.put-3.ensures
