use Rattle.std.proofs.Common.{ℕ, ◌+◌, get_or, arith}
use Rattle.std.proofs.lemmas.List.FromFn.{fill_by_all}
use Rattle.grumpy_c.specs.Words.{count_in}
use Rattle.grumpy_c.proofs.words.counts.Goals as goal

pub returns : goal.returns
returns c =
    let a = c.args in
    fill_by_all (λ (i : ℕ). count_in a.larger (get_or a.words.now (a.k + i) 0)) c.loop-i.stops 9 0 c.loop-i.invariant.long
    (λ j h. c.loop-i.invariant.read j (omega arith))
