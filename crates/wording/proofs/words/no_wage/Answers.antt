-- `no_wage` puts the parts one behind the other.
use Rattle.page.proofs.Adding.{◌▸◌}
use Rattle.wording.specs.Words.{wage_words}
use Rattle.wording.proofs.words.no_wage.Goals as goal

pub returns : goal.returns
unfolding wage_words
returns c = c.put.ensures ▸ c.name.ensures ▸ c.put-2.ensures
