-- `there` puts the parts one behind the other.
use Rattle.page.proofs.Adding.{being, ◌▸◌}
use Rattle.records.proofs.Saying.{place_at}
use Rattle.records.proofs.told.there.Goals as goal

pub returns : goal.returns
returns c = being (place_at _ c.spot-spot.ensures) (c.field.ensures ▸ c.field-2.ensures ▸ c.field-3.ensures)
