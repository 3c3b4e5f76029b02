-- `on_line` puts the parts one behind the other.
use Rattle.clerk.specs.Told.{number_words, on_line}
use Rattle.page.proofs.Adding.{being, ◌▸◌}
use mathlib.Core.Path.{ap}
use Rattle.clerk.proofs.people.on_line.Goals as goal

pub returns : goal.returns
unfolding on_line
returns c =
    c.line.ensures ▸ being (ap number_words c.number.ensures) c.numbered.ensures ▸ c.words.ensures ▸ c.put.ensures
