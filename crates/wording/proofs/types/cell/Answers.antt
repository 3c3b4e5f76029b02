-- `cell` puts the parts one behind the other.
use Rattle.page.proofs.Adding.{◌▸◌}
use Rattle.wording.specs.Values.{cell_words}
use Rattle.wording.proofs.types.cell.Goals as goal

pub returns : goal.returns
unfolding cell_words
returns c = c.put.ensures ▸ c.decimal.ensures
