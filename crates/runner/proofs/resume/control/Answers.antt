use lib.Dec.{lit<}
use Rattle.runner.proofs.Promises.{resumes_table, resumes_frame}
use Rattle.runner.proofs.Resuming.{resumes_then, resumes_else, resumes_test, resumes_pass, resumes_end, resumes_bound}
use Rattle.runner.proofs.Resuming.{resumes_whole, row_bound, row_condition, row_test, row_pass, slot_bound}
use Rattle.runner.proofs.resume.control.Goals as goal

pub link-part-requires : goal.link-part-requires
link-part-requires c =
    (resumes_table c.requires.0, row_bound c.if-phase-eq-BOUND.true c.requires.0, lit< tt)

pub hold-requires : goal.hold-requires
hold-requires c =
    let x = resumes_frame c.requires.0 in (x.0, x.1, slot_bound c.if-phase-eq-BOUND.true c.requires.0)

pub returns-then-phase-eq-BOUND : goal.returns-then-phase-eq-BOUND
returns-then-phase-eq-BOUND c =
    resumes_bound c.if-phase-eq-BOUND.true c.link-part.ensures c.hold.ensures.2
    c.hold.ensures.0 c.hold.ensures.1

pub link-part-requires-then-is_true : goal.link-part-requires-then-is_true
link-part-requires-then-is_true c =
    (resumes_table c.requires.0, row_condition c.if-phase-eq-CONDITION.true c.requires.0, lit< tt)

pub returns-then-is_true : goal.returns-then-is_true
returns-then-is_true c =
    resumes_then c.turn.ensures.1 c.if-phase-eq-CONDITION.true c.is_true.ensures c.if-is_true.true
    c.link-part-then-is_true.ensures c.turn.ensures.0

pub link-other-requires : goal.link-other-requires
link-other-requires c =
    (resumes_table c.requires.0, row_condition c.if-phase-eq-CONDITION.true c.requires.0, lit< tt)

pub returns-then-phase-eq-CONDITION : goal.returns-then-phase-eq-CONDITION
returns-then-phase-eq-CONDITION c =
    resumes_else c.turn-then-phase-eq-CONDITION.ensures.1 c.if-phase-eq-CONDITION.true c.is_true.ensures c.if-is_true.false
    c.link-other.ensures c.turn-then-phase-eq-CONDITION.ensures.0

pub link-part-requires-then-is_true-2 : goal.link-part-requires-then-is_true-2
link-part-requires-then-is_true-2 c =
    (resumes_table c.requires.0, row_test c.if-phase-eq-TEST.true c.requires.0, lit< tt)

pub returns-then-is_true-2 : goal.returns-then-is_true-2
returns-then-is_true-2 c =
    resumes_test c.turn-then-is_true-2.ensures.1 c.if-phase-eq-TEST.true c.is_true-then-phase-eq-TEST.ensures c.if-is_true-2.true
    c.link-part-then-is_true-2.ensures c.turn-then-is_true-2.ensures.0

pub returns-then-phase-eq-TEST : goal.returns-then-phase-eq-TEST
returns-then-phase-eq-TEST c =
    resumes_end c.if-phase-eq-TEST.true c.is_true-then-phase-eq-TEST.ensures c.if-is_true-2.false c.gives.ensures

pub link-part-requires-then-phase-eq-PASS : goal.link-part-requires-then-phase-eq-PASS
link-part-requires-then-phase-eq-PASS c =
    (resumes_table c.requires.0, row_pass c.if-phase-eq-PASS.true c.requires.0, lit< tt)

pub returns-then-phase-eq-PASS : goal.returns-then-phase-eq-PASS
returns-then-phase-eq-PASS c =
    resumes_pass c.turn-then-phase-eq-PASS.ensures.1 c.if-phase-eq-PASS.true c.link-part-then-phase-eq-PASS.ensures c.turn-then-phase-eq-PASS.ensures.0

pub returns : goal.returns
returns c =
    resumes_whole c.requires.1 c.if-phase-eq-BOUND.false c.if-phase-eq-CONDITION.false c.if-phase-eq-TEST.false c.if-phase-eq-PASS.false c.done.ensures
