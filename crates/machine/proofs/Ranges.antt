-- Signed numbers of 32 bits by the detour over 64: the range test, and one law for every operation.
use mathlib.Core.Path.{◌≡◌, refl, sym, ap, subst, ◌∙◌}
use mathlib.Core.Bool.{Bool, true, false, cond}
use Prim.Native.Nat.{ℕ, zero, suc, ◌+◌, ◌-◌, ◌*◌, ◌/◌, ◌^◌, ◌<◌, ◌≤◌}
use native.Mathlib.Omega.{arith}
use native.Mathlib.Nat.{zero-add, mul-le-mul, div-le_self}
use lib.IntN.{ℤ, pos, negsuc, neg_ℤ, sub_ℕ, ◌+ℤ◌, ◌-ℤ◌, ◌*ℤ◌}
use lib.Signed.{mag, le_z, quot_z}
use lib.Dec.{T, ltb}
use borrow.Author.Tests.{lt-ltb, le-leb, leb-true}
use mir.Syntax.{w32, w64}
use mir.Val.{to_z, of_z, SFits}
use mir.Facts.{to_z-of_z, sfits_widen}
use Rattle.language.specs.Sizes.{LARGEST}
use Rattle.language.specs.State.{choose}
use Rattle.language.specs.Meaning.{in_range, fit}
use Rattle.machine.specs.Outcomes.{Fitted}
use Rattle.layout.specs.declared.values.Value.TheVariants.{Int}
use Rattle.numbers.specs.declared.Stop.{Stop}
use Rattle.std.specs.Prelude.{Ok, Err}

-- ---- through the bits and back

module _ {z : ℤ} (f : SFits w32 z) where
  -- a number of 32 bits is one of 64
  pub widened : SFits w64 (to_z w32 (of_z w32 z))
  widened = rw (to_z-of_z {w = w32} f) (sfits_widen tt f)

  wide : to_z w64 (of_z w64 (to_z w32 (of_z w32 z))) ≡ z
  wide = rw (to_z-of_z {w = w32} f) (to_z-of_z {w = w64} (sfits_widen tt f))

-- ---- the range test

-- from the lowest int on
pub within : (z : ℤ) → le_z (negsuc LARGEST) z ≡ true → le_z z (pos LARGEST) ≡ in_range z
unfolding in_range
within (pos n) e = refl
within (negsuc n) e = sym e

-- below it
pub too_low : (z : ℤ) {b : Bool} → b ≡ le_z (negsuc LARGEST) z → b ≡ false → b ≡ in_range z
unfolding in_range
too_low (pos n) e f = absurd (subst T (sym e ∙ f) tt)
too_low (negsuc n) e f = e

fits_32 : (z : ℤ) → in_range z ≡ true → SFits w32 z
unfolding in_range
fits_32 (pos n) e = let l = leb-true n LARGEST e in record { sfits = omega arith }
fits_32 (negsuc n) e = let l = leb-true n LARGEST e in record { sfits = omega arith }

pub fits_range : (z : ℤ) → SFits w32 z → in_range z ≡ true
unfolding in_range
fits_range (pos n) f = le-leb n LARGEST (omega (arith, f.sfits))
fits_range (negsuc n) f = le-leb n LARGEST (omega (arith, f.sfits))

pub over_range : (z : ℤ) → (SFits w32 z → ⊥) → in_range z ≡ false
over_range z h = by (in_range z) refl
  where
    by : (t : Bool) → in_range z ≡ t → t ≡ false
    by true e = absurd (h (fits_32 z e))
    by false e = refl

-- ---- no operation leaves 64 bits

mag_sub : (a b : ℕ) → mag (sub_ℕ a (suc b)) ≤ a + b
mag_sub a b = by (ltb a (suc b)) refl
  where
    by : (t : Bool) → ltb a (suc b) ≡ t → mag (cond t (negsuc (suc b - suc a)) (pos (a - suc b))) ≤ a + b
    by true e = omega arith
    by false e = omega arith

mag_sum : (a b : ℤ) → mag (a +ℤ b) ≤ suc (mag a + mag b)
mag_sum (pos a) (pos b) = omega arith
mag_sum (pos a) (negsuc b) = omega (arith, mag_sub a b)
mag_sum (negsuc a) (pos b) = omega (arith, mag_sub b a)
mag_sum (negsuc a) (negsuc b) = omega arith

-- a sum
pub sum_wide : (a b : ℤ) → SFits w32 a → SFits w32 b → SFits w64 (a +ℤ b)
sum_wide a b f g = record { sfits = omega (arith, mag_sum a b, f.sfits, g.sfits) }

mag_neg : (n : ℕ) → mag (neg_ℤ (pos n)) ≤ n
mag_neg zero = omega arith
mag_neg (suc n) = omega arith

product_bound : (a b : ℕ) → a ≤ 2 ^ 31 → b ≤ 2 ^ 31 → a * b ≤ 2 ^ 62
product_bound a b h k = mul-le-mul h k

-- a product
pub product_wide : (a b : ℤ) → SFits w32 a → SFits w32 b → SFits w64 (a *ℤ b)
product_wide (pos a) (pos b) f g = record { sfits = omega (arith, product_bound a b (omega (arith, f.sfits)) (omega (arith, g.sfits))) }
product_wide (pos a) (negsuc b) f g = record {
  sfits = omega (arith, product_bound a (suc b) (omega (arith, f.sfits)) (omega (arith, g.sfits)), mag_neg (a * suc b));
}
product_wide (negsuc a) (pos b) f g = record {
  sfits = omega (arith, product_bound (suc a) b (omega (arith, f.sfits)) (omega (arith, g.sfits)), mag_neg (suc a * b));
}
product_wide (negsuc a) (negsuc b) f g = record {
  sfits = omega (arith, product_bound (suc a) (suc b) (omega (arith, f.sfits)) (omega (arith, g.sfits)));
}

mag_min : (b : ℤ) → mag (neg_ℤ b) ≤ suc (mag b)
mag_min (pos zero) = omega arith
mag_min (pos (suc b)) = omega arith
mag_min (negsuc b) = omega arith

-- a difference
pub difference_wide : (a b : ℤ) → SFits w32 a → SFits w32 b → SFits w64 (a -ℤ b)
difference_wide a b f g = record { sfits = omega (arith, mag_sum a (neg_ℤ b), mag_min b, f.sfits, g.sfits) }

mag_quot : (a b : ℤ) → mag (quot_z a b) ≤ suc (mag a)
mag_quot (pos a) (pos b) = omega (arith, div-le_self a b)
mag_quot (pos a) (negsuc b) = omega (arith, div-le_self a (suc b), mag_neg (a / suc b))
mag_quot (negsuc a) (pos b) = omega (arith, div-le_self (suc a) b, mag_neg (suc a / b))
mag_quot (negsuc a) (negsuc b) = omega (arith, div-le_self (suc a) (suc b))

-- a quotient
pub quotient_wide : (a b : ℤ) → SFits w32 a → SFits w64 (quot_z a b)
quotient_wide a b f = record { sfits = omega (arith, mag_quot a b, f.sfits) }

-- a divisor's bits are not 0
pub bits_positive : (b : ℤ) → SFits w32 b → (b ≡ pos 0 → ⊥) → (0 < of_z w32 b) × (0 < of_z w64 b)
bits_positive (pos zero) f h = absurd (h refl)
bits_positive (pos (suc n)) f h = (omega arith, omega arith)
bits_positive (negsuc n) f h = (omega (arith, f.sfits), omega (arith, f.sfits))

-- ---- every operation: in 64 bits, tested, in 32 bits

-- x and y are a and b, taken to 64 bits
module _ (op : ℤ → ℤ → ℤ) (a b : ℤ) (fa : SFits w32 a) (fb : SFits w32 b) (fw : SFits w64 (op a b)) {x y : ℤ} (ex : x ≡ to_z w32 (of_z w32 a))
    (ey : y ≡ to_z w32 (of_z w32 b)) where
  module _ (t : Bool) (e : t ≡ in_range (to_z w64 (of_z w64 (op (to_z w64 (of_z w64 x)) (to_z w64 (of_z w64 y)))))) where
    plain : t ≡ in_range (op a b)
    plain = rw (ex, ey, wide fa, wide fb, to_z-of_z {w = w64} fw) at e

    -- in range, so it fits 32 bits
    pub op_32 : t ≡ true → SFits w32 (op (to_z w32 (of_z w32 a)) (to_z w32 (of_z w32 b)))
    op_32 h = rw (to_z-of_z {w = w32} fa, to_z-of_z {w = w32} fb) (fits_32 (op a b) (sym plain ∙ h))

    -- in range, and the answer
    pub op_is : t ≡ true → Fitted (op a b) (Ok (Int (to_z w32 (of_z w32 (op (to_z w32 (of_z w32 a)) (to_z w32 (of_z w32 b)))))))
    unfolding fit choose
    op_is h i σ =
        let j : in_range (op a b) ≡ true = sym plain ∙ h in
        rw (to_z-of_z {w = w32} fa, to_z-of_z {w = w32} fb, to_z-of_z {w = w32} (fits_32 (op a b) j), j) refl

    -- out of range, and the stop
    pub op_over : t ≡ false → Fitted (op a b) (Err Stop.OutOfRange)
    unfolding fit choose
    op_over h i σ = let j : in_range (op a b) ≡ false = sym plain ∙ h in rw j refl

-- 0, from which a negated number is subtracted
pub zero_fits : SFits w32 (pos 0)
zero_fits = record { sfits = omega arith }

zero_plus : (z : ℤ) → pos 0 +ℤ z ≡ z
zero_plus (pos n) = ap pos (zero-add n)
zero_plus (negsuc n) = let e : suc n - suc 0 ≡ n = omega arith in rw (lt-ltb 0 (suc n) (omega arith)) (ap negsuc e)

-- subtracted from 0 is negated
pub negated_is : (a : ℤ) → pos 0 -ℤ a ≡ neg_ℤ a
negated_is a = zero_plus (neg_ℤ a)
