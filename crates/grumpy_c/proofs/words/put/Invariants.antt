-- `put` goes word by word: so far the first ones stand.
use mathlib.Core.Path.{◌≡◌}
use lib.ListN.{length}
use Rattle.grumpy_c.proofs.Laying.{so_far}
use Rattle.grumpy_c.proofs.words.put.Given as goal

abbrev pub invariant-loop-i : goal.invariant-loop-i
invariant-loop-i l = (length l.words ≡ length l.initial.words) × (l.words ≡ so_far l.initial.words l.front l.i)
