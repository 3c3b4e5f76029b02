-- `there` puts the parts one behind the other.
use Rattle.clerk.proofs.Saying.{marked_at}
use Rattle.clerk.specs.Told.{number_words, there_lines}
use Rattle.page.proofs.Adding.{being, ◌▸◌}
use mathlib.Core.Path.{ap}
use Rattle.clerk.proofs.people.there.Goals as goal

pub returns : goal.returns
unfolding there_lines
returns c =
    c.position.ensures ▸ being (ap number_words c.number.ensures) c.numbered.ensures ▸ c.words.ensures ▸ c.put.ensures
    ▸ being (marked_at _ c.spot-spot.ensures) c.marked.ensures
