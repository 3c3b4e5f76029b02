-- `bit_between` goes from bit to bit: below this one the letters are alike.
use native.Mathlib.Omega.{arith}
use Rattle.tokens.proofs.Bits.{agree_more, agree_below}
use Rattle.tokens.proofs.forks.bit_between.Goals as goal

pub loop-bit-preserved : goal.loop-bit-preserved
loop-bit-preserved c =
    let l = c.loop-bit.invariant in
    let g = c.requires in
    let small = agree_below _ _ l.2 256 g.0 g.1 g.2 in
    (omega arith, omega arith, agree_more _ _ l.2 l.0 c.loop-bit-test.true)
