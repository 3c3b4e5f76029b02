-- `line` puts the parts one behind the other.
use Rattle.page.proofs.Adding.{◌▸◌}
use Rattle.clerk.specs.Told.{line_words}
use Rattle.clerk.proofs.people.line.Goals as goal

pub returns : goal.returns
unfolding line_words
returns c = c.name.ensures ▸ c.put.ensures ▸ c.decimal.ensures
