-- `spot` puts together what the searches found.
use Prim.Native.Nat.{◌-◌}
use Rattle.page.proofs.Feeds.{ahead_few, feeds_few}
use Rattle.page.proofs.Letters.{part_few}
use native.Mathlib.Omega.{arith}
use Rattle.page.proofs.spot.Goals as goal

pub slice_bounds-readable-end : goal.slice_bounds-readable-end
slice_bounds-readable-end c =
    omega (arith, c.line_end-to.ensures, ahead_few c.args.source.now c.min-here.result)

pub overflow_add-result : goal.overflow_add-result
overflow_add-result c =
    omega (
      arith,
      c.feeds_before-before.ensures,
      feeds_few c.args.source.now c.min-here.result,
      c.min-here.ensures,
      c.well_formed,
    )

pub overflow_add-result-2 : goal.overflow_add-result-2
overflow_add-result-2 c =
    omega (
      arith,
      c.columns-columns.ensures,
      part_few c.readable-plain.result c.args.source.now c.line_start-from.result
          (c.min-here.result - c.line_start-from.result),
      c.well_formed,
    )
