use lib.Signed.{quot_z}
use Rattle.machine.proofs.Ranges.{quotient_wide, op_32, op_is, op_over, bits_positive}
use Rattle.machine.proofs.arithmetic.divide.Goals as goal

pub nonzero_div-result : goal.nonzero_div-result
nonzero_div-result c = (
  (bits_positive c.args.b c.ranges.b c.requires).0,
  op_32 quot_z c.args.a c.args.b c.ranges.a c.ranges.b
      (quotient_wide c.args.a c.args.b c.ranges.a) c.from.ensures c.from-2.ensures _ c.fits.ensures c.if-fits.true,
)

pub returns-then-fits : goal.returns-then-fits
returns-then-fits c =
    op_is quot_z c.args.a c.args.b c.ranges.a c.ranges.b
    (quotient_wide c.args.a c.args.b c.ranges.a) c.from.ensures c.from-2.ensures _ c.fits.ensures c.if-fits.true

pub returns-else-fits : goal.returns-else-fits
returns-else-fits c =
    op_over quot_z c.args.a c.args.b c.ranges.a c.ranges.b
    (quotient_wide c.args.a c.args.b c.ranges.a) c.from.ensures c.from-2.ensures _ c.fits.ensures c.if-fits.false
