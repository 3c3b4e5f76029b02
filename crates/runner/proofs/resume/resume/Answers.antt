use lib.Dec.{lit<}
use Rattle.runner.proofs.Promises.{some_from, phase_at, resumes_table}
use Rattle.runner.proofs.Resuming.{resumes_last, resumes_before, resumes_inside, row_before}
use Rattle.runner.specs.Phases.{UNARY, LEFT, RIGHT}
use Rattle.runner.proofs.resume.resume.Goals as goal

pub returns-then-phase-eq-LAST : goal.returns-then-phase-eq-LAST
returns-then-phase-eq-LAST c =
    resumes_last c.if-phase-eq-LAST.true c.gives.ensures

pub right-requires : goal.right-requires
right-requires c =
    some_from (phase_at RIGHT c.if-phase-eq-RIGHT.true) c.requires.0

pub left-requires : goal.left-requires
left-requires c =
    some_from (phase_at LEFT c.if-phase-eq-LEFT.true) c.requires.0

pub unary-requires : goal.unary-requires
unary-requires c =
    some_from (phase_at UNARY c.if-phase-eq-UNARY.true) c.requires.0

pub link-part-requires : goal.link-part-requires
link-part-requires c =
    (resumes_table c.requires.0, row_before c.if-phase-eq-BEFORE.true c.requires.0, lit< tt)

pub returns-then-phase-eq-BEFORE : goal.returns-then-phase-eq-BEFORE
returns-then-phase-eq-BEFORE c =
    resumes_before c.turn.ensures.1 c.if-phase-eq-BEFORE.true c.link-part.ensures c.turn.ensures.0

pub returns-then-phase-eq-INSIDE : goal.returns-then-phase-eq-INSIDE
returns-then-phase-eq-INSIDE c =
    resumes_inside c.if-phase-eq-INSIDE.true c.mark-live.ensures c.free-t.ensures c.gives-then-phase-eq-INSIDE.ensures
