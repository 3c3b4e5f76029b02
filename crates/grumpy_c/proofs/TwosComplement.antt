-- The two's complement of a number below zero: one less than its distance to zero, taken from the largest word; and back.
use mathlib.Core.Bool.{true}
use mathlib.Core.Path.{◌≡◌, refl, ap, ◌∙◌}
use Prim.Native.Nat.{ℕ, zero, suc, ◌-◌, ◌^◌, ◌≤◌, ◌<◌}
use native.Mathlib.Omega.{arith}
use lib.IntN.{ℤ, pos, negsuc, neg_ℤ, ◌-ℤ◌}
use lib.Signed.{lt_z, mag}
use borrow.Author.Tests.{ltb-true, lt-ltb, le-ltb}
use mir.Facts.{to_z-of_z, to_z_pos}
use mir.Syntax.{w64}
use mir.Val.{to_z, of_z, SFits}
use Rattle.grumpy_c.proofs.Distance.{below_fits}

pub complement_below : (z : ℤ) → lt_z z (pos 0) ≡ true → SFits w64 z → 18446744073709551615 - mag z ≡ of_z w64 z
complement_below (pos n) e f = let l : n < 0 = ltb-true n 0 e in absurd (omega arith)
complement_below (negsuc n) e f = omega (arith, f.sfits)

-- ---- back

zero_less : (b : ℕ) → pos 0 -ℤ pos b ≡ neg_ℤ (pos b)
zero_less zero = refl
zero_less (suc n) = rw (lt-ltb 0 (suc n) (omega arith)) (ap negsuc (omega arith))

one_down : (b : ℕ) → neg_ℤ (pos b) -ℤ pos 1 ≡ negsuc b
one_down zero = refl
one_down (suc n) = ap negsuc (omega arith)

module _ (b : ℕ) (small : b < 2 ^ 63) where
  pub lowered : pos 0 -ℤ to_z w64 b ≡ neg_ℤ (pos b)
  lowered = rw (to_z_pos w64 small) (zero_less b)

  pub lowered_fits : SFits w64 (pos 0 -ℤ to_z w64 b)
  lowered_fits = rw lowered (below_fits b small)

  pub lowered_again : to_z w64 (of_z w64 (pos 0 -ℤ to_z w64 b)) -ℤ pos 1 ≡ negsuc b
  lowered_again = rw (to_z-of_z {w = w64} lowered_fits, lowered) (one_down b)

  pub lowered_again_fits : SFits w64 (to_z w64 (of_z w64 (pos 0 -ℤ to_z w64 b)) -ℤ pos 1)
  lowered_again_fits = rw lowered_again record { sfits = small }

pub number_below : (w : ℕ) → 2 ^ 63 ≤ w → w < 2 ^ 64 → negsuc (18446744073709551615 - w) ≡ to_z w64 w
number_below w h k = rw (le-ltb w (2 ^ 63) h) (ap negsuc (omega arith))

-- ---- of a number that was read from memory

pub record Signed (z : ℤ) (n : ℕ) : Type 0 where
  pub fits : SFits w64 z
  pub word : n ≡ of_z w64 (to_z w64 (of_z w64 z))

pub signed : {z : ℤ} {n : ℕ} → Signed z n → n ≡ of_z w64 z
signed s = s.word ∙ ap (of_z w64) (to_z-of_z {w = w64} s.fits)
