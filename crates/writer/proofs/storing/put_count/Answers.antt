use native.Mathlib.Omega.{arith}
use Rattle.writer.proofs.Digits.{byte_end, count_end, count_put}
use Rattle.writer.proofs.storing.put_count.Goals as goal

pub put_byte-end-requires : goal.put_byte-end-requires
put_byte-end-requires c =
    omega (arith, byte_end _ _ _ c.put_byte-high.ensures, c.put_byte-high.auto, c.requires.1)

pub bounds-out-end : goal.bounds-out-end
bounds-out-end c =
    let end = count_end _ _ c.requires.1 c.put_byte-high.ensures c.put_byte-end.ensures in
    omega (arith, end, c.put_byte-high.auto, c.put_byte-end.auto, c.requires.1)

pub returns : goal.returns
returns c =
    count_put _ _ c.requires.1 c.put_byte-high.ensures c.put_byte-end.ensures
