use Rattle.std.proofs.Common.{◌≡◌, ℕ, ◌+◌, ◌<◌, ◌≤◌, get_or, length}
use Rattle.tally.proofs.combining.counted.Given as goal

abbrev pub invariant-loop-i : goal.invariant-loop-i
invariant-loop-i l = record {
  long : length l.both ≡ 9;
  added : (k : ℕ) → k < l.i → get_or l.both k 0 ≡ get_or l.fn.a k 0 + get_or l.fn.b k 0;
  left : (k : ℕ) → l.i ≤ k → get_or l.both k 0 ≡ get_or l.fn.a k 0;
}
