use native.Mathlib.Omega.{arith}
use Rattle.profiles.proofs.RowLaws.{share_call, share_for, share_while, share_plain}
use Rattle.profiles.proofs.passes.share.Goals as goal

pub returns-in-40 : goal.returns-in-40
returns-in-40 c =
    share_call _ _ _ _ c.word-kind.ensures c.in-40.is c.arguments-passed.ensures c.callee.ensures
    c.beside.ensures

pub returns-in_default : goal.returns-in_default
returns-in_default c =
    share_for _ _ _ _ c.word-kind.ensures c.counts.ensures c.if-counts.true c.arguments.ensures
    c.around-in_default.ensures

pub returns-in-6 : goal.returns-in-6
returns-in-6 c =
    share_while _ _ _ _ c.word-kind.ensures c.in-6.is c.over.ensures c.around.ensures

pub returns-in_default-2 : goal.returns-in_default-2
returns-in_default-2 c =
    share_plain _ _ _ _ c.word-kind.ensures (λ e. omega arith) c.counts.ensures c.if-counts.false (λ e. omega arith)
    c.children.ensures c.over-in_default-2.ensures
