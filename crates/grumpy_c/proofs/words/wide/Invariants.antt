use Rattle.std.proofs.Common.{◌≡◌, ℕ, ◌<◌, get_or, length}
use Rattle.grumpy_c.proofs.words.wide.Given as goal

abbrev pub invariant-loop-i : goal.invariant-loop-i
invariant-loop-i l = record {
  long : length l.wide ≡ 9;
  told : (j : ℕ) → j < l.i → get_or l.wide j 0 ≡ get_or l.n-items j 0;
}
