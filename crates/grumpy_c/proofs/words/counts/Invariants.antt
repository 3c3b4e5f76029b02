use Rattle.std.proofs.Common.{◌≡◌, ℕ, ◌+◌, ◌<◌, get_or, length}
use Rattle.grumpy_c.specs.Words.{count_in}
use Rattle.grumpy_c.proofs.words.counts.Given as goal

abbrev pub invariant-loop-i : goal.invariant-loop-i
invariant-loop-i l = record {
  long : length l.stops ≡ 9;
  read : (j : ℕ) → j < l.i → get_or l.stops j 0 ≡ count_in l.larger (get_or l.words (l.k + j) 0);
}
