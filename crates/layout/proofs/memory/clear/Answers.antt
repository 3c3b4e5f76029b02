use native.Mathlib.Omega.{arith}
use borrow.Rule.Slice.PartMut.{mid_len}
use Rattle.layout.proofs.Clearing.{zeros_filled}
use Rattle.layout.proofs.memory.clear.Goals as goal

pub returns : goal.returns
returns c =
    let a = c.args in
    rw (c.fill.ensures.after (λ y p. p), mid_len a.from a.to a.words.now (omega arith))
    (zeros_filled _ a.from a.words.now (omega arith))
