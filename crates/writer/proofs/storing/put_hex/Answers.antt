-- `put_hex` goes byte by byte: so far the digits of the first ones are put.
use Rattle.writer.proofs.Digits.{putting_none, putting_room, putting_more}
use Rattle.writer.proofs.storing.put_hex.Goals as goal

pub loop-i-init : goal.loop-i-init
loop-i-init c =
    putting_none _ _ _ _ _ c.requires

pub put_byte-end-requires : goal.put_byte-end-requires
put_byte-end-requires c =
    putting_room _ _ _ _ _ c.requires c.loop-i.invariant c.loop-i-test.true

pub loop-i-preserved : goal.loop-i-preserved
loop-i-preserved c =
    putting_more _ _ _ _ _ c.requires c.loop-i.invariant c.loop-i-test.true c.put_byte-end.ensures
