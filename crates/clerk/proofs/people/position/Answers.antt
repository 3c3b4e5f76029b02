-- `position` puts the parts one behind the other.
use Rattle.clerk.proofs.Saying.{position_at}
use Rattle.clerk.specs.Told.{position_words}
use Rattle.page.proofs.Adding.{being, ◌▸◌}
use Rattle.clerk.proofs.people.position.Goals as goal

pub returns : goal.returns
unfolding position_words
returns c =
    being (position_at _ c.spot-spot.ensures _)
    (c.name.ensures ▸ c.put.ensures ▸ c.decimal.ensures ▸ c.put-2.ensures ▸ c.decimal-2.ensures)
