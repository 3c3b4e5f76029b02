use lib.Dec.{lit<}
use Rattle.runner.proofs.Promises.{resumes_table, resumes_room}
use Rattle.runner.proofs.Resuming.{row_unary, not_new, unaries, creates}
use Rattle.runner.proofs.resume.unary.Goals as goal

pub word-op-requires : goal.word-op-requires
word-op-requires c =
    (resumes_table c.requires, row_unary c.requires, lit< tt)

pub word-place-requires : goal.word-place-requires
word-place-requires c =
    (resumes_table c.requires, row_unary c.requires, lit< tt)

pub returns-then-op-eq-NEW : goal.returns-then-op-eq-NEW
returns-then-op-eq-NEW c =
    creates c.word-op.ensures c.word-place.ensures c.if-op-eq-NEW.true c.create.ensures

pub apply_unary-r-requires : goal.apply_unary-r-requires
apply_unary-r-requires c =
    ((resumes_room c.requires).0, not_new c.word-op.ensures c.word-place.ensures c.if-op-eq-NEW.false c.requires)

pub returns : goal.returns
returns c =
    unaries c.word-op.ensures c.word-place.ensures c.apply_unary-r.result c.apply_unary-r.ensures
    c.onward.ensures
