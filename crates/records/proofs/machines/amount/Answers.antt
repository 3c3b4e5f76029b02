-- `amount` puts the parts one behind the other.
use Rattle.wording.specs.Fields.{signed_line}
use Rattle.page.proofs.Adding.{being, ◌▸◌}
use mathlib.Core.Path.{ap}
use mir.Facts.{to_z-of_z}
use mir.Syntax.{w64}
use Rattle.records.proofs.machines.amount.Goals as goal

pub returns : goal.returns
unfolding signed_line
returns c =
    being (ap (signed_line c.args.name.now) (to_z-of_z {w = w64} c.ranges.n))
    (c.put.ensures ▸ c.put-2.ensures ▸ c.signed.ensures ▸ c.put-3.ensures)
