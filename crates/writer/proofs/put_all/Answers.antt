-- `put_all` goes token by token: so far the first ones stand at the front.
use Rattle.writer.proofs.Steps.{laying_room, laying_more, laying_all}
use Rattle.writer.proofs.put_all.Goals as goal

pub put-at-requires : goal.put-at-requires
put-at-requires c =
    let given = c.requires in
    let h = c.loop-i-test.true in
    record { spans = given.0; here = h; room = laying_room c.loop-i.invariant given.0 given.1 h }

pub loop-i-preserved : goal.loop-i-preserved
loop-i-preserved c =
    let given = c.requires in
    laying_more c.loop-i.invariant given.0 given.1 c.loop-i-test.true c.put-at.ensures

pub returns : goal.returns
returns c =
    laying_all c.loop-i.invariant c.loop-i-test.false
