use mathlib.Core.Path.{refl}
use lib.Dec.{lit<, lit≤}
use native.Mathlib.Omega.{arith}
use Rattle.runner.proofs.Promises.{resumes_table, resumes_frame}
use Rattle.runner.proofs.Resuming.{row_right, slot_right, rights}
use Rattle.runner.proofs.resume.right.Goals as goal

pub word-op-requires : goal.word-op-requires
word-op-requires c =
    (resumes_table c.requires, row_right c.requires, lit< tt)

pub word-place-requires : goal.word-place-requires
word-place-requires c =
    (resumes_table c.requires, row_right c.requires, lit< tt)

pub value-a-requires : goal.value-a-requires
value-a-requires c =
    (lit≤ tt, omega (arith, slot_right c.requires), omega (arith, slot_right c.requires, (resumes_frame c.requires).0))

pub returns : goal.returns
returns c =
    rights c.word-op.ensures c.word-place.ensures refl c.value-a.result c.value-a.ensures
    c.apply_binary-r.ensures c.onward.ensures
