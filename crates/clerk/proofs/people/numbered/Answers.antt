-- `numbered` puts the parts one behind the other.
use Rattle.page.proofs.Adding.{◌▸◌}
use Rattle.clerk.specs.Told.{number_words}
use Rattle.clerk.proofs.people.numbered.Goals as goal

pub returns : goal.returns
unfolding number_words
returns c = c.put.ensures ▸ c.decimal.ensures ▸ c.put-2.ensures
