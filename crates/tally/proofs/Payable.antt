-- Laws over plain numbers that the proofs of `tally::paying` cite.
use lib.IntN.{ℤ, pos, negsuc, neg_ℤ, ◌+ℤ◌, ◌*ℤ◌}
use lib.Signed.{mag, le_z}
use mathlib.Core.Bool.{true, ◌&&◌}
use mathlib.Core.Path.{◌≡◌, refl, subst}
use mir.Syntax.{w64}
use mir.Facts.{to_z_pos}
use mir.Val.{SFits, to_z}
use native.Mathlib.Nat.{mul-le-mul}
use native.Mathlib.Omega.{arith}
use Prim.Native.Nat.{ℕ, zero, suc, ◌-◌, ◌*◌, ◌≤◌}
use Rattle.language.specs.Sizes.{LARGEST, LINES}
use Rattle.language.specs.Meaning.{in_range}
use Rattle.language.specs.Combining.{payable}
use Rattle.language.proofs.Shift.Totals.{mag_plus, range_mag}

-- ---- what many come to fits

neg_mag : (n : ℕ) → mag (neg_ℤ (pos n)) ≤ n
neg_mag zero = omega arith
neg_mag (suc n) = omega arith

times_mag : (n : ℕ) (z : ℤ) → n ≤ LINES → mag z ≤ LARGEST → mag (pos n *ℤ z) ≤ 140737488355328
times_mag n (pos k) h l = omega (arith, mul-le-mul h l)
times_mag n (negsuc k) h l =
    let m : suc k ≤ 2147483648 = omega arith in
    omega (arith, neg_mag (n * suc k), mul-le-mul h m)

module _ (n : ℕ) (y z : ℤ) (p : (in_range y ≡ true) × (in_range z ≡ true) × (n ≤ LINES)) where
  pub times_fits : SFits w64 (pos n *ℤ z)
  times_fits = record { sfits = omega (arith, times_mag n z p.2 (range_mag z p.1)) }

  pub with_fits : SFits w64 (y +ℤ pos n *ℤ z)
  with_fits = record { sfits = omega (arith, mag_plus y (pos n *ℤ z), range_mag y p.0, times_mag n z p.2 (range_mag z p.1)) }

-- a count that is small, read from its bits
pub plain : (n : ℕ) → n ≤ LINES → to_z w64 n ≡ pos n
plain n h = to_z_pos w64 (omega arith)

-- ---- where somebody was paid

pub somebody : (n : ℕ) (s l g : ℤ) → (n ≡ 0 → ⊥)
    → payable n s l g ≡ (in_range l && (in_range g && (le_z l g && (le_z (g +ℤ pos (n - 1) *ℤ l) s && le_z s (l +ℤ pos (n - 1) *ℤ g)))))
unfolding payable
somebody n s l g h =
    let e : suc (n - 1) ≡ n = omega (arith, h) in
    subst
    (λ (m : ℕ). payable m s l g ≡ (in_range l && (in_range g && (le_z l g && (le_z (g +ℤ pos (n - 1) *ℤ l) s && le_z s (l +ℤ pos (n - 1) *ℤ g))))))
    e refl
