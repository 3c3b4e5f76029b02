-- `bits_line` puts the parts one behind the other.
use Rattle.page.proofs.Adding.{◌▸◌}
use Rattle.wording.specs.Values.{bits_line}
use Rattle.wording.proofs.types.bits_line.Goals as goal

pub returns : goal.returns
unfolding bits_line
returns c = c.put.ensures ▸ c.bits.ensures ▸ c.put-2.ensures
