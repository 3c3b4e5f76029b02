use native.Mathlib.Omega.{arith}
use mathlib.Core.Path.{refl}
use mir.Facts.{to_z-of_z}
use mir.Syntax.{w64}
use Rattle.language.specs.Shift.{lesser, greater}
use Rattle.tally.specs.Stands.{report_in}
use Rattle.tally.proofs.Laws.{back}
use Rattle.tally.proofs.Combined.{stops_few, lines_few, bad_few, paid_few, sum_few, sum_fits, pay_picked, all_joined}
use Rattle.tally.proofs.combining.both.Goals as goal

pub overflow_add-result : goal.overflow_add-result
overflow_add-result c = omega (arith, lines_few (report_in c.args.a) (report_in c.args.b) c.requires)

pub overflow_add-result-2 : goal.overflow_add-result-2
overflow_add-result-2 c = omega (arith, bad_few (report_in c.args.a) (report_in c.args.b) c.requires)

pub counted-requires : goal.counted-requires
counted-requires c = stops_few (report_in c.args.a) (report_in c.args.b) c.requires

pub overflow_add-result-3 : goal.overflow_add-result-3
overflow_add-result-3 c = omega (arith, paid_few (report_in c.args.a) (report_in c.args.b) c.requires)

pub overflow_add-result-4 : goal.overflow_add-result-4
overflow_add-result-4 c =
    let a = c.args.a in
    let b = c.args.b in
    rw (back {z = a.sum} (omega arith), back {z = b.sum} (omega arith))
    (sum_fits a.sum b.sum (sum_few (report_in a) (report_in b) c.requires))

pub returns : goal.returns
returns c =
    let a = c.args.a in
    let b = c.args.b in
    let n = c.paid-n.ensures in
    let m = c.paid-m.ensures in
    let fits = sum_fits a.sum b.sum (sum_few (report_in a) (report_in b) c.requires) in
    all_joined a b c.requires _ _ _ _ _ _ _ refl refl c.counted.ensures refl n m
    (rw (back {z = a.sum} (omega arith), back {z = b.sum} (omega arith)) (to_z-of_z {w = w64} fits))
    (pay_picked lesser a.least b.least n m (omega arith) (omega arith) c.min.ensures.value c.min.type_inv c.either.type_inv c.either.ensures)
    (pay_picked greater a.largest b.largest n m (omega arith) (omega arith) c.max.ensures.value c.max.type_inv c.either-2.type_inv c.either-2.ensures)
