-- A number read digit for digit: what its value is so far, and that it is too large as soon as the value so far is.
use lib.Dec.{ltb}
use lib.Seq.{slice}
use mathlib.Core.Bool.{Bool, true, false, ◌&&◌}
use mathlib.Core.List.{List}
use mathlib.Core.Option.{none, some}
use mathlib.Core.Path.{◌≡◌, refl, sym, ◌∙◌, ap, subst}
use borrow.Author.Tests.{ltb-true, le-ltb}
use native.Mathlib.Nat.{mul-le-mul}
use native.Mathlib.Omega.{arith}
use Prim.Native.Nat.{ℕ, ◌+◌, ◌*◌, ◌≤◌, ◌<◌}
use Rattle.language.proofs.Text.Bases.{base_told}
use Rattle.language.proofs.Text.Choices.{and_both}
use Rattle.language.proofs.Text.Digits.{number_none, number_more, number_grows}
use Rattle.language.proofs.Text.Runs.{Run}
use Rattle.language.specs.Sizes.{LARGEST}
use Rattle.language.specs.Text.{byte, is_hex_digit, worth, is_digit_of, number_from}
use Rattle.language.specs.Tokens.{Spelling, spelled, bases}

-- the base of two bytes, as numbers are told by: 0, which has no digit, where they tell none
pub base_some : (s : Spelling) {base : ℕ} → spelled bases s ≡ some base → base ≡ base_told s
unfolding base_told
base_some s e = sym (rw e refl)

pub base_none : (s : Spelling) → spelled bases s ≡ none → 0 ≡ base_told s
unfolding base_told
base_none s e = sym (rw e refl)

pub no_digit : (b : ℕ) → is_digit_of 0 b ≡ false
unfolding is_digit_of
no_digit b = rw (le-ltb (worth b) 0 (omega arith)) (and_false (is_hex_digit b))
  where
    and_false : (x : Bool) → (x && false) ≡ false
    and_false true = refl
    and_false false = refl

-- the digits from p up to i, of those up to q, write v
pub record Read (base : ℕ) (t : List ℕ) (p q i v : ℕ) : Type 0 where
  pub order : p ≤ i
  pub inside : i ≤ q
  pub value : v ≡ number_from base 0 (slice p i t)
  pub small : v ≤ LARGEST

-- what is not too large times a base
pub product : {v base : ℕ} → v ≤ LARGEST → base ≤ 16 → v * base ≤ LARGEST * 16
product a b = mul-le-mul a b

-- a digit of a base, in its two parts
parts : (base b : ℕ) → is_digit_of base b ≡ true → (is_hex_digit b ≡ true) × (worth b < base)
unfolding is_digit_of
parts base b e = let z = and_both (is_hex_digit b) (ltb (worth b) base) e in (z.0, ltb-true (worth b) base z.1)

module _ {base p q : ℕ} {t : List ℕ} (r : Run (is_digit_of base) t p q) where
  -- at first no digit is read
  pub read_none : Read base t p q p 0
  read_none = record { order = omega arith; inside = r.order; value = sym (number_none base t p p 0); small = omega arith }

  -- where no digit is left the number is read
  pub read_all : {i v : ℕ} → Read base t p q i v → q ≤ i → v ≡ number_from base 0 (slice p q t)
  read_all {i} {v} s h = let z : i ≡ q = omega (arith, s.inside) in subst (λ x. v ≡ number_from base 0 (slice p x t)) z s.value

  -- the byte at i, which is b
  module _ {i v b : ℕ} (s : Read base t p q i v) (h : i < q) (e : b ≡ byte t i) where
    -- it is a digit
    pub read_hex : is_hex_digit b ≡ true
    read_hex = subst (λ x. is_hex_digit x ≡ true) (sym e) (parts base (byte t i) (r.each i h s.order)).0

    -- worth w
    module _ {w : ℕ} (f : w ≡ worth b) where
      -- less than the base
      pub read_worth : w < base
      read_worth = let d = (parts base (byte t i) (r.each i h s.order)).1 in omega (arith, f ∙ ap worth e)

      longer : number_from base 0 (slice p (i + 1) t) ≡ v * base + w
      longer =
          number_more base t p i 0 s.order (omega (arith, r.within))
          ∙ ap (λ x. x * base + worth (byte t i)) (sym s.value) ∙ ap (λ x. v * base + x) (sym (f ∙ ap worth e))

      -- one digit more
      pub read_more : v * base + w ≤ LARGEST → Read base t p q (i + 1) (v * base + w)
      read_more l = record { order = omega (arith, s.order); inside = omega arith; value = sym longer; small = l }

      -- what is too large so far is too large in the end
      pub read_large : 0 < base → LARGEST < v * base + w → LARGEST < number_from base 0 (slice p q t)
      read_large g l =
          let z = number_grows base t p (i + 1) 0 q g (omega (arith, s.order)) (omega arith) r.within in
          omega (arith, longer)
