use lib.IntN.{pos, ◌-ℤ◌}
use mathlib.Core.Path.{refl}
use Rattle.machine.proofs.Ranges.{difference_wide, zero_fits, negated_is, op_32, op_is, op_over}
use Rattle.machine.proofs.arithmetic.negate.Goals as goal

pub overflow_sub-result : goal.overflow_sub-result
overflow_sub-result c =
    op_32 ◌-ℤ◌ (pos 0) c.args.a zero_fits c.ranges.a
    (difference_wide (pos 0) c.args.a zero_fits c.ranges.a) refl c.from.ensures _ c.fits.ensures c.if-fits.true

pub returns-then-fits : goal.returns-then-fits
returns-then-fits c =
    rw (negated_is c.args.a) at
    (op_is ◌-ℤ◌ (pos 0) c.args.a zero_fits c.ranges.a
    (difference_wide (pos 0) c.args.a zero_fits c.ranges.a) refl c.from.ensures _ c.fits.ensures c.if-fits.true)

pub returns-else-fits : goal.returns-else-fits
returns-else-fits c =
    rw (negated_is c.args.a) at
    (op_over ◌-ℤ◌ (pos 0) c.args.a zero_fits c.ranges.a
    (difference_wide (pos 0) c.args.a zero_fits c.ranges.a) refl c.from.ensures _ c.fits.ensures c.if-fits.false)
