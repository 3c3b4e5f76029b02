use lib.IntN.{◌+ℤ◌}
use Rattle.machine.proofs.Ranges.{sum_wide, op_32, op_is, op_over}
use Rattle.machine.proofs.arithmetic.add.Goals as goal

pub overflow_add-result : goal.overflow_add-result
overflow_add-result c =
    op_32 ◌+ℤ◌ c.args.a c.args.b c.ranges.a c.ranges.b
    (sum_wide c.args.a c.args.b c.ranges.a c.ranges.b) c.from.ensures c.from-2.ensures _ c.fits.ensures c.if-fits.true

pub returns-then-fits : goal.returns-then-fits
returns-then-fits c =
    op_is ◌+ℤ◌ c.args.a c.args.b c.ranges.a c.ranges.b
    (sum_wide c.args.a c.args.b c.ranges.a c.ranges.b) c.from.ensures c.from-2.ensures _ c.fits.ensures c.if-fits.true

pub returns-else-fits : goal.returns-else-fits
returns-else-fits c =
    op_over ◌+ℤ◌ c.args.a c.args.b c.ranges.a c.ranges.b
    (sum_wide c.args.a c.args.b c.ranges.a c.ranges.b) c.from.ensures c.from-2.ensures _ c.fits.ensures c.if-fits.false
