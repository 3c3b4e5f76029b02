use Rattle.std.proofs.Common.{ℕ, get_or, arith}
use Rattle.std.proofs.lemmas.List.FromFn.{fill_by_all}
use Rattle.grumpy_c.proofs.words.wide.Goals as goal

pub returns : goal.returns
returns c =
    fill_by_all (λ (i : ℕ). get_or c.args.stops i 0) c.loop-i.wide 9 0 c.loop-i.invariant.long (λ j h. c.loop-i.invariant.told j (omega arith))
