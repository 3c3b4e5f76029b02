use mir.Facts.{to_z-of_z}
use mir.Syntax.{w64}
use Rattle.tally.proofs.Payable.{plain, times_fits, with_fits}
use Rattle.tally.proofs.paying.with_others.Goals as goal

pub overflow_mul-result : goal.overflow_mul-result
overflow_mul-result c =
    rw (c.from.ensures, plain c.args.others c.requires.2, to_z-of_z {w = w64} c.ranges.each) (times_fits c.args.others c.args.one c.args.each c.requires)

pub overflow_add-result : goal.overflow_add-result
overflow_add-result c =
    rw (
      c.from.ensures,
      plain c.args.others c.requires.2,
      to_z-of_z {w = w64} c.ranges.each,
      to_z-of_z {w = w64} c.ranges.one,
      to_z-of_z {w = w64} (times_fits c.args.others c.args.one c.args.each c.requires),
    )
    (with_fits c.args.others c.args.one c.args.each c.requires)

pub returns : goal.returns
returns c =
    rw (
      c.from.ensures,
      plain c.args.others c.requires.2,
      to_z-of_z {w = w64} c.ranges.each,
      to_z-of_z {w = w64} c.ranges.one,
      to_z-of_z {w = w64} (times_fits c.args.others c.args.one c.args.each c.requires),
      to_z-of_z {w = w64} (with_fits c.args.others c.args.one c.args.each c.requires),
    )
