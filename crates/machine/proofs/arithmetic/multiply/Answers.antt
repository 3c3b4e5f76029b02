use lib.IntN.{◌*ℤ◌}
use Rattle.machine.proofs.Ranges.{product_wide, op_32, op_is, op_over}
use Rattle.machine.proofs.arithmetic.multiply.Goals as goal

pub overflow_mul-result : goal.overflow_mul-result
overflow_mul-result c =
    op_32 ◌*ℤ◌ c.args.a c.args.b c.ranges.a c.ranges.b
    (product_wide c.args.a c.args.b c.ranges.a c.ranges.b) c.from.ensures c.from-2.ensures _ c.fits.ensures c.if-fits.true

pub returns-then-fits : goal.returns-then-fits
returns-then-fits c =
    op_is ◌*ℤ◌ c.args.a c.args.b c.ranges.a c.ranges.b
    (product_wide c.args.a c.args.b c.ranges.a c.ranges.b) c.from.ensures c.from-2.ensures _ c.fits.ensures c.if-fits.true

pub returns-else-fits : goal.returns-else-fits
returns-else-fits c =
    op_over ◌*ℤ◌ c.args.a c.args.b c.ranges.a c.ranges.b
    (product_wide c.args.a c.args.b c.ranges.a c.ranges.b) c.from.ensures c.from-2.ensures _ c.fits.ensures c.if-fits.false
