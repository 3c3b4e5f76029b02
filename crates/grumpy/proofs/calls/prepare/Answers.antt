use Rattle.grumpy.proofs.Calling.{never_refused, seen_prepared}
use Rattle.grumpy.proofs.calls.prepare.Goals as goal

pub returns-in-Ok : goal.returns-in-Ok
returns-in-Ok c =
    let a = c.args in
    seen_prepared a.edition a.book.now c.requires.admissible _ _ _ c.examine.ensures _
    c.in-Ok.is _ c.resolve.ensures

pub returns-in-Err : goal.returns-in-Err
returns-in-Err c =
    let a = c.args in
    absurd
    (never_refused a.edition a.book.now c.requires.admissible _ _ _ c.examine.ensures _ c.in-Err.is)
