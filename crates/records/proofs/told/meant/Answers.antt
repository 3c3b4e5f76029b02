-- `meant` puts the parts one behind the other.
use Rattle.page.proofs.Adding.{◌▸◌}
use Rattle.records.specs.Told.{meant_line}
use Rattle.records.proofs.told.meant.Goals as goal

pub returns : goal.returns
unfolding meant_line
returns c = c.put.ensures ▸ c.words.ensures ▸ c.put-2.ensures
