use Rattle.std.proofs.Common.{◌+◌, get_or, arith, ℕ}
use Rattle.std.proofs.lemmas.List.FromFn.{fill_by_all}
use Rattle.tally.proofs.Combined.{each_few}
use Rattle.tally.proofs.combining.counted.Goals as goal

pub overflow_add-both : goal.overflow_add-both
overflow_add-both c =
    omega (arith, each_few c.args.a c.args.b c.loop-i.i c.requires (omega arith), c.loop-i.invariant.left c.loop-i.i (omega arith))

pub returns : goal.returns
returns c =
    let a = c.args.a in
    let b = c.args.b in
    fill_by_all (λ (i : ℕ). get_or a i 0 + get_or b i 0) c.loop-i.both 9 0 c.loop-i.invariant.long (λ k h. c.loop-i.invariant.added k (omega arith))
