-- `amount` puts the parts one behind the other.
use mathlib.Core.Path.{ap}
use mir.Facts.{to_z-of_z}
use mir.Syntax.{w64}
use Rattle.page.proofs.Adding.{being, ◌▸◌}
use Rattle.clerk.specs.Shifts.{amount_line}
use Rattle.clerk.proofs.shifts.amount.Goals as goal

pub returns : goal.returns
unfolding amount_line
returns c =
    being (ap (amount_line c.args.name.now) (to_z-of_z {w = w64} c.ranges.pence))
    (c.put.ensures ▸ c.signed.ensures ▸ c.put-2.ensures ▸ c.pounds.ensures ▸ c.put-3.ensures)
