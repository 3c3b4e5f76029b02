use Rattle.layout.specs.Table.{NEXT}
use Rattle.profiles.proofs.ShareLaws.{reach_most, earlier_most, earlier_least}
use Rattle.profiles.proofs.RowLaws.{sum_over, sum_step}
use native.Mathlib.Omega.{arith}
use Rattle.profiles.proofs.passes.arguments.Goals as goal

pub loop-at-init : goal.loop-at-init
loop-at-init c = (
  omega (arith, c.reach-at.ensures, reach_most c.args.table.now c.args.row),
  λ t h. rw c.reach-at.ensures at h,
)

pub loop-at-smaller : goal.loop-at-smaller
loop-at-smaller c =
    omega (
      arith,
      c.earlier-at.ensures,
      earlier_least c.args.table.now c.loop-at.at NEXT (λ e. omega (arith, c.loop-at-test.true, e)),
    )

pub loop-at-preserved : goal.loop-at-preserved
loop-at-preserved c = (
  omega (arith, c.loop-at.invariant.0, c.earlier-at.ensures, earlier_most c.args.table.now c.loop-at.at NEXT),
  λ t h. c.loop-at.invariant.1 t (sum_step c.args.table.now c.loop-at-test.true c.part.ensures
      c.beside-sum.ensures c.earlier-at.ensures h),
)

pub returns : goal.returns
returns c = c.loop-at.invariant.1 _ (sum_over c.args.table.now (omega (arith, c.loop-at-test.false)))
