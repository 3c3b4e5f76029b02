-- `feed` asks for the book again, and then goes through the bytes.
use Rattle.shift.proofs.Pieces.{lends, feed_granted, feed_refused}
use Rattle.shift.proofs.feed.Goals as goal

pub bytes-requires : goal.bytes-requires
bytes-requires c =
    lends _ _ _ _ _ _ _ c.args.state c.asked.result c.asked.ensures c.in-Ok.is

pub returns-in-Ok : goal.returns-in-Ok
returns-in-Ok c =
    feed_granted _ _ _ _ _ _ _ _ _ c.asked.result c.asked.ensures _ _ _ _ c.in-Ok.is
    c.bytes.ensures

pub returns-in-Err : goal.returns-in-Err
returns-in-Err c =
    feed_refused _ _ _ _ _ _ _ _ _ c.asked.result c.asked.ensures _ _ c.in-Err.is
