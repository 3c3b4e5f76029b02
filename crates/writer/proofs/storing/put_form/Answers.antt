-- `put_form` goes token by token behind the count: so far the lines of the first ones are put.
use native.Mathlib.Omega.{arith}
use Rattle.writer.proofs.Forms.{lining_room, lining_more, lining_all, counted_room}
use Rattle.writer.proofs.storing.put_form.Goals as goal

pub put_line-at-requires : goal.put_line-at-requires
put_line-at-requires c =
    let h = c.loop-i-test.true in
    let room = counted_room _ c.requires.0 _ c.requires.1 c.put_count-at.ensures in
    record { spans = c.requires.0; here = h; room = lining_room c.requires.0 room c.loop-i.invariant h }

pub loop-i-preserved : goal.loop-i-preserved
loop-i-preserved c =
    let room = counted_room _ c.requires.0 _ c.requires.1 c.put_count-at.ensures in
    lining_more c.requires.0 room c.loop-i.invariant c.loop-i-test.true c.put_line-at.ensures

pub returns : goal.returns
returns c =
    let room = counted_room _ c.requires.0 _ c.requires.1 c.put_count-at.ensures in
    lining_all c.requires.0 room c.loop-i.invariant _ c.loop-i-test.false (omega (arith, c.requires.1)) c.put_count-at.ensures
