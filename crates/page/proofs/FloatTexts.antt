-- A float in characters, over plain numbers: the cases of each part, and the digits of its bits one by one.
use borrow.Author.Tests.{lt-ltb, le-ltb, eq-eqb, ne_eqb}
use lib.Dec.{eqb}
use lib.Ieee.{binary64, low, top}
use lib.Pow.{pow_mono, shl_exact, shr-shr}
use mathlib.Core.Bool.{true, false}
use mathlib.Core.List.{[], ◌∷◌, ◌++◌}
use mathlib.Core.Path.{◌≡◌, refl, sym, ◌∙◌, ap}
use native.Mathlib.Nat.{one-mul, div-eq_of_lt, mod-eq_of_lt, div-one}
use native.Mathlib.Omega.{arith}
use Prim.Native.Nat.{ℕ, zero, suc, ◌+◌, ◌-◌, ◌*◌, ◌/◌, ◌%◌, ◌^◌, ◌≤◌, ◌<◌}
use Rattle.language.specs.Tokens.{spell}
use Rattle.page.proofs.Adding.{◌▸◌, being}
use Rattle.page.specs.Text.{Writes}
use Rattle.page.specs.declared.pages.Page.{Page}
use Rattle.page.specs.Floats.{unsigned, ENDLESS, significand, steps, thousandths, is_exact, sign_text, about_text}
use Rattle.page.specs.Floats.{decimal_text, product_text, float_text, capital, hexadecimal, bits_text}

-- ---- numbers

-- a power of two of 64 bits
pub power_is : (k : ℕ) → k < 64 → (1 * 2 ^ k) % 18446744073709551616 ≡ 2 ^ k
power_is k h = shl_exact {a = 1} 1 k 64 (omega arith) (omega arith) ∙ one-mul (2 ^ k)

module _ (b : ℕ) where
  pub no_field : b % 9223372036854775808 / 4503599627370496 ≡ 0
      → (b % 4503599627370496 ≡ significand b) × (b % 4503599627370496 < 9007199254740992)
  unfolding significand
  no_field h = (rw (eq-eqb (b % 9223372036854775808 / 4503599627370496) 0 h), omega arith)

  pub some_field : (b % 9223372036854775808 / 4503599627370496 ≡ 0 → ⊥)
      → (4503599627370496 + b % 4503599627370496 ≡ significand b) × (4503599627370496 + b % 4503599627370496 < 9007199254740992)
  unfolding significand
  some_field h = (rw (ne_eqb (b % 9223372036854775808 / 4503599627370496) 0 h), omega arith)

-- a significand over a power of two beyond 64 bits
module _ (q s : ℕ) (small : q < 9007199254740992) (large : 64 ≤ s) where
  limit : 18446744073709551616 ≤ 2 ^ s
  limit = pow_mono {i = 64} large

  pub none_at_all : 0 ≡ thousandths q s
  unfolding thousandths
  none_at_all = sym (div-eq_of_lt {n = q * 1000 + 2 ^ s / 2} {m = 2 ^ s} (omega (arith, limit)))

  pub all_lost : eqb q 0 ≡ is_exact q s
  unfolding is_exact
  all_lost = zero_too q ∙ sym (ap (λ (n : ℕ). eqb n 0) (mod-eq_of_lt {n = q * 1000} {m = 2 ^ s} (omega (arith, limit))))
    where
      zero_too : (n : ℕ) → eqb n 0 ≡ eqb (n * 1000) 0
      zero_too zero = refl
      zero_too (suc n) = ne_eqb (suc n) 0 (λ e. omega arith) ∙ sym (ne_eqb (suc n * 1000) 0 (λ e. omega arith))

-- ---- parts

module _ (b : ℕ) where
  pub sign_none : b < top binary64 → [] ≡ sign_text b
  unfolding sign_text
  sign_none h = rw (lt-ltb b (top binary64) h)

  pub sign_minus : top binary64 ≤ b → spell "-" ≡ sign_text b
  unfolding sign_text
  sign_minus h = rw (le-ltb b (top binary64) h)

module _ (q s : ℕ) where
  pub about_none : is_exact q s ≡ true → [] ≡ about_text q s
  unfolding about_text
  about_none h = rw h

  pub about_more : is_exact q s ≡ false → spell "~" ≡ about_text q s
  unfolding about_text
  about_more h = rw h

module _ (b : ℕ) where
  pub no_number : ENDLESS < unsigned b → spell "not a number" ≡ float_text b
  unfolding float_text
  no_number h = rw (lt-ltb ENDLESS (unsigned b) h)

  module _ (below : unsigned b ≤ ENDLESS) where
    pub endless : unsigned b ≡ ENDLESS → sign_text b ++ spell "infinity" ≡ float_text b
    unfolding float_text
    endless h = rw (le-ltb ENDLESS (unsigned b) below, eq-eqb (unsigned b) ENDLESS h)

    module _ (finite : unsigned b ≡ ENDLESS → ⊥) where
      pub in_decimal : steps b < low binary64 → decimal_text b ≡ float_text b
      unfolding float_text
      in_decimal h = rw (le-ltb ENDLESS (unsigned b) below, ne_eqb (unsigned b) ENDLESS finite, lt-ltb (steps b) (low binary64) h)

      pub as_product : low binary64 ≤ steps b → product_text b ≡ float_text b
      unfolding float_text
      as_product h = rw (le-ltb ENDLESS (unsigned b) below, ne_eqb (unsigned b) ENDLESS finite, le-ltb (steps b) (low binary64) h)

-- ---- the digits of the bits

-- all are put but the last `left`, and one more of these
pub nibbles_more : (b left : ℕ) {d : ℕ} {p q r : Page} → 0 < left → left ≤ 16 → d ≡ capital (b / 2 ^ (4 * (left - 1)) % 16)
    → Writes (hexadecimal (16 - left) (b / 2 ^ (4 * left))) p q → Writes (d ∷ []) q r
    → Writes (hexadecimal (16 - (left - 1)) (b / 2 ^ (4 * (left - 1)))) p r
unfolding hexadecimal
nibbles_more b zero some few x g w = absurd (omega arith)
nibbles_more b (suc l) some few x g w = being text (g ▸ being (ap (λ (k : ℕ). k ∷ []) (x ∙ digit)) w)
  where
    less : suc l - 1 ≡ l
    less = omega arith

    digit : capital (b / 2 ^ (4 * (suc l - 1)) % 16) ≡ capital (b / 2 ^ (4 * l) % 16)
    digit = rw less

    above : b / 2 ^ (4 * suc l) ≡ b / 2 ^ (4 * l) / 16
    above = let e : 4 * suc l ≡ 4 * l + 4 = omega arith in rw e (sym (shr-shr b (4 * l) 4))

    text : hexadecimal (16 - suc l) (b / 2 ^ (4 * suc l)) ++ (capital (b / 2 ^ (4 * l) % 16) ∷ [])
        ≡ hexadecimal (16 - (suc l - 1)) (b / 2 ^ (4 * (suc l - 1)))
    text = let e : 16 - l ≡ suc (16 - suc l) = omega arith in rw (less, e, above)

pub nibbles_all : (b : ℕ) {left : ℕ} {p q : Page} → left ≤ 0 → Writes (hexadecimal (16 - left) (b / 2 ^ (4 * left))) p q
    → Writes (bits_text b) p q
unfolding bits_text
nibbles_all b {left = zero} h g = being (ap (hexadecimal 16) (div-one b)) g
nibbles_all b {left = suc l} h g = absurd (omega arith)
