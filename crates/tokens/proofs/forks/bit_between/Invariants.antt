-- `bit_between` goes from bit to bit: below this one the letters are alike.
use Prim.Native.Nat.{◌-◌, ◌%◌, ◌≤◌, ◌<◌}
use Rattle.std.proofs.Common.{◌≡◌}
use Rattle.tokens.proofs.forks.bit_between.Given as goal

abbrev pub invariant-loop-bit : goal.invariant-loop-bit
invariant-loop-bit l = (0 < l.bit) × (l.bit ≤ 512) × (l.old % l.bit ≡ l.new % l.bit)

abbrev pub decreases-loop-bit : goal.decreases-loop-bit
decreases-loop-bit l = 512 - l.bit
