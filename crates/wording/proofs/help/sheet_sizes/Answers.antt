-- `sheet_sizes` puts the parts one behind the other.
use Rattle.page.proofs.Adding.{◌▸◌}
use Rattle.wording.specs.Help.{sheet_sizes}
use Rattle.wording.proofs.help.sheet_sizes.Goals as goal

pub returns : goal.returns
unfolding sheet_sizes
returns c = c.field.ensures ▸ c.field-2.ensures ▸ c.field-3.ensures ▸ c.field-4.ensures ▸ c.field-5.ensures
