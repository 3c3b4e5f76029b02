-- `type_line` puts the parts one behind the other.
use Rattle.page.proofs.Adding.{◌▸◌}
use Rattle.wording.specs.Types.{type_line}
use Rattle.wording.proofs.fields.type_line.Goals as goal

pub returns : goal.returns
unfolding type_line
returns c = c.put.ensures ▸ c.name.ensures ▸ c.put-2.ensures
