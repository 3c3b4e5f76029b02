-- How far a number below zero is from it: one more, and its sign turned.
use lib.IntN.{ℤ, pos, negsuc, neg_ℤ, ◌+ℤ◌, ◌-ℤ◌}
use lib.Signed.{lt_z, mag}
use mathlib.Core.Bool.{true, false}
use mathlib.Core.Path.{◌≡◌, refl, ap}
use borrow.Author.Tests.{ltb-true, lt-ltb}
use mir.Syntax.{w64}
use mir.Val.{SFits, of_z}
use native.Mathlib.Nat.{zero-add}
use native.Mathlib.Omega.{arith}
use Prim.Native.Nat.{ℕ, zero, suc, ◌^◌, ◌<◌}
use Rattle.language.proofs.Text.Choices.{clash}

pub one_up : (z : ℤ) → lt_z z (pos 0) ≡ true → z +ℤ pos 1 ≡ neg_ℤ (pos (mag z))
one_up (pos n) e = let l : n < 0 = ltb-true n 0 e in absurd (omega arith)
one_up (negsuc zero) e = refl
one_up (negsuc (suc n)) e = rw (lt-ltb 1 (suc (suc n)) (omega arith)) (ap negsuc (omega arith))

pub below_fits : (n : ℕ) → n < 2 ^ 63 → SFits w64 (neg_ℤ (pos n))
below_fits zero h = record { sfits = omega arith }
below_fits (suc n) h = record { sfits = omega arith }

pub one_up_fits : (z : ℤ) → lt_z z (pos 0) ≡ true → SFits w64 z → SFits w64 (z +ℤ pos 1)
one_up_fits z e f = rw (one_up z e) (below_fits (mag z) f.sfits)

back : (n : ℕ) → pos 0 -ℤ neg_ℤ (pos n) ≡ pos n
back zero = refl
back (suc n) = ap pos (zero-add (suc n))

pub below_zero : (z : ℤ) → lt_z z (pos 0) ≡ true → pos 0 -ℤ (z +ℤ pos 1) ≡ pos (mag z)
below_zero z e = rw (one_up z e) (back (mag z))

-- one that is not below zero is its own word
pub as_word : (z : ℤ) → lt_z z (pos 0) ≡ false → z ≡ pos (of_z w64 z)
as_word (pos n) e = refl
as_word (negsuc n) e = absurd (clash refl e)
