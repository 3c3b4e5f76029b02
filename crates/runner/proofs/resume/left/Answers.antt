use lib.Dec.{lit<}
use Rattle.runner.proofs.Promises.{resumes_table, resumes_frame}
use Rattle.runner.proofs.Resuming.{row_left, slot_left, lefts_settled, lefts_held}
use Rattle.runner.proofs.resume.left.Goals as goal

pub word-op-requires : goal.word-op-requires
word-op-requires c =
    (resumes_table c.requires, row_left c.requires, lit< tt)

pub returns-then-settles : goal.returns-then-settles
returns-then-settles c =
    lefts_settled c.word-op.ensures c.settles.ensures c.if-settles.true c.gives.ensures

pub link-part-requires : goal.link-part-requires
link-part-requires c =
    (resumes_table c.requires, row_left c.requires, lit< tt)

pub hold-requires : goal.hold-requires
hold-requires c =
    let x = resumes_frame c.requires in (x.0, x.1, slot_left c.requires)

pub returns : goal.returns
returns c =
    lefts_held c.word-op.ensures c.settles.ensures c.if-settles.false c.link-part.ensures
    c.hold.ensures.2 c.hold.ensures.0 c.hold.ensures.1
