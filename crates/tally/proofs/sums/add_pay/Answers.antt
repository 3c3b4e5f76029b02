use mathlib.Core.Path.{◌∙◌}
use mir.Syntax.{w64}
use mir.Facts.{to_z-of_z}
use native.Mathlib.Omega.{arith}
use Rattle.language.specs.Shift.{lesser, greater}
use Rattle.tally.specs.Sums.{summed}
use Rattle.tally.proofs.Laws.{back, picked, first_pay, next_pay}
use Rattle.tally.proofs.sums.add_pay.Goals.{then-s-eq0, else-s-eq0}
use Rattle.tally.proofs.sums.add_pay.Goals as goal

pub returns : goal.returns
returns c =
    let s = c.args.s in
    let z = c.args.pay in
    let et = back c.plus.type_inv ∙ picked summed s.sum z (omega arith) c.ranges.pay c.plus.ensures in
    let ez = to_z-of_z {w = w64} c.ranges.pay in
    elim c.if-s-eq0.branch [
      | then-s-eq0 w ↦ first_pay s z _ _ _ _ _ c.one_more.ensures c.one_more-2.ensures et w.if-s-eq0.true (rw (w.least-is, ez) ez)
          (rw (w.least-is, ez) ez)
      | else-s-eq0 w ↦ next_pay s z _ _ _ _ _ c.one_more.ensures c.one_more-2.ensures et w.if-s-eq0.false
          (rw (w.least-is, back {z = w.min.result} w.min.type_inv) (back w.min.type_inv ∙ picked lesser s.least z (omega arith) c.ranges.pay w.min.ensures.value))
          (rw (w.least-is, back {z = w.max.result} w.max.type_inv) (back w.max.type_inv ∙ picked greater s.largest z (omega arith) c.ranges.pay w.max.ensures.value))
    ]
