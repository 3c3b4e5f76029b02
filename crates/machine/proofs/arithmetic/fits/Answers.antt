use mathlib.Core.Path.{refl}
use mir.Syntax.{w64}
use mir.Facts.{to_z-of_z}
use Rattle.machine.proofs.Ranges.{too_low, within}
use Rattle.machine.proofs.arithmetic.fits.Goals as goal

pub returns-then-x-ge-LOWEST : goal.returns-then-x-ge-LOWEST
returns-then-x-ge-LOWEST c =
    rw (to_z-of_z {w = w64} c.ranges.x) (within c.args.x (rw (to_z-of_z {w = w64} c.ranges.x) at c.if-x-ge-LOWEST.true))

pub returns-else-x-ge-LOWEST : goal.returns-else-x-ge-LOWEST
returns-else-x-ge-LOWEST c =
    rw (to_z-of_z {w = w64} c.ranges.x) (too_low c.args.x refl (rw (to_z-of_z {w = w64} c.ranges.x) at c.if-x-ge-LOWEST.false))
