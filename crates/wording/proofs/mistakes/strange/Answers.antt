-- `strange` puts the parts one behind the other.
use Rattle.page.proofs.Adding.{◌▸◌}
use Rattle.wording.specs.Mistakes.{strange_text}
use Rattle.wording.proofs.mistakes.strange.Goals as goal

pub returns : goal.returns
unfolding strange_text
returns c = c.put.ensures ▸ c.name.ensures ▸ c.put-2.ensures
