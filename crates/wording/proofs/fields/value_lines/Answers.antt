-- `value_lines` puts the parts one behind the other.
use Rattle.page.proofs.Adding.{◌▸◌}
use Rattle.wording.specs.Values.{value_lines}
use Rattle.wording.proofs.fields.value_lines.Goals as goal

pub returns : goal.returns
unfolding value_lines
returns c = c.put.ensures ▸ c.value.ensures ▸ c.put-2.ensures ▸ c.bits.ensures
