-- `put` goes word by word: so far the first ones stand.
use native.Mathlib.Omega.{arith}
use Rattle.grumpy_c.proofs.Laying.{all_put}
use Rattle.grumpy_c.proofs.words.put.Goals as goal

pub returns : goal.returns
returns c =
    let v = c.loop-i.invariant in all_put _ _ c.loop-i.words c.loop-i.i v.1 (omega arith) (omega arith)
