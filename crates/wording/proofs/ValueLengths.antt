-- How long a value is in words at most; of a float, the words and the bits.
use lib.Dec.{eqb, ltb}
use lib.Ieee.{binary64, hid, low, top, to_bits}
use lib.IntN.{ℤ, pos, negsuc, nat_abs}
use lib.ListN.{length, length-append}
use mathlib.Core.Bool.{true, false}
use mathlib.Core.List.{[], ◌∷◌}
use mathlib.Core.Path.{◌≡◌, refl}
use native.Mathlib.Nat.{div-lt_iff_lt-mul, div-le_self, le-mul_of_pos_right, mod-lt, one-le-pow, add-mul}
use native.Mathlib.Omega.{arith}
use Prim.Native.Nat.{ℕ, zero, suc, ◌+◌, ◌-◌, ◌*◌, ◌/◌, ◌%◌, ◌^◌, ◌≤◌, ◌<◌}
use Rattle.language.specs.State.{Value, number, float, flag, nothing, cell}
use Rattle.page.specs.Floats.{significand, steps, thousandths, sign_text, about_text, thousandths_text, decimal_text}
use Rattle.page.specs.Floats.{product_text, float_text, hexadecimal, bits_text, capital, unsigned, is_exact, ENDLESS}
use Rattle.wording.specs.Values.{signed_by, signed_words, truth_words, cell_words, value_words, bits_line, bits_words, value_lines}
use Rattle.wording.proofs.Lengths.{either, either_count, Short, decimal_few, digits_long}

-- ---- floats

module _ (b : ℕ) where
  significand_low : significand b ≤ 9007199254740992
  unfolding significand
  significand_low =
      let m : b % 4503599627370496 < 4503599627370496 = mod-lt b {m = 4503599627370496} (omega arith) in
      either_count (eqb (unsigned b / hid binary64) 0) (b % 4503599627370496) (4503599627370496 + b % 4503599627370496) _
      (omega arith) (omega arith)

  steps_low : steps b ≤ 2048
  unfolding steps
  steps_low =
      let m : b % 9223372036854775808 < 2048 * 4503599627370496 = mod-lt b {m = 9223372036854775808} (omega arith) in
      let d : b % 9223372036854775808 / 4503599627370496 < 2048 = (div-lt_iff_lt-mul {k = 4503599627370496} (omega arith)).1 m in
      omega arith

  sign_few : length (sign_text b) ≤ 1
  unfolding sign_text
  sign_few = either (ltb b (top binary64)) _ _ 1 (omega arith) (omega arith)

over : (m p : ℕ) → 1 ≤ p → (m + p / 2) / p < m + 2
over m p h =
    let far : m + p / 2 < (m + 2) * p = rw (add-mul m 2 p) (omega (arith, le-mul_of_pos_right {m = p} m h, div-le_self p 2)) in
    (div-lt_iff_lt-mul {k = p} (omega arith)).1 far

about_few : (q s : ℕ) → length (about_text q s) ≤ 1
unfolding about_text
about_few q s = either (is_exact q s) _ _ 1 (omega arith) (omega arith)

thousandths_few : (q s : ℕ) → q ≤ 9007199254740992 → length (thousandths_text (thousandths q s)) ≤ 24
unfolding thousandths_text thousandths
thousandths_few q s h =
    let l : (q * 1000 + 2 ^ s / 2) / 2 ^ s < q * 1000 + 2 = over (q * 1000) (2 ^ s) (one-le-pow s 2 (omega arith)) in
    let n = (q * 1000 + 2 ^ s / 2) / 2 ^ s in
    let short : Short (n / 1000) = omega (arith, div-le_self n 1000) in
    simp length-append (omega (arith, decimal_few (n / 1000) short, digits_long 3 n))

float_few : (b : ℕ) → length (float_text b) ≤ 50
unfolding float_text decimal_text product_text
float_few b =
    let q = significand b in
    let small : Short q = omega (arith, significand_low b) in
    let power : Short (steps b - low binary64) = omega (arith, steps_low b) in
    either (ltb ENDLESS (unsigned b)) _ _ 50 (omega arith)
    (either (eqb (unsigned b) ENDLESS) _ _ 50 (simp length-append (omega (arith, sign_few b)))
    (either (ltb (steps b) (low binary64)) _ _ 50
    (simp length-append (omega (
      arith,
      about_few q (low binary64 - steps b),
      sign_few b,
      thousandths_few q (low binary64 - steps b) (significand_low b),
    )))
    (simp length-append (omega (arith, sign_few b, decimal_few q small, decimal_few (steps b - low binary64) power)))))

hexadecimal_long : (k n : ℕ) → length (hexadecimal k n) ≡ k
unfolding hexadecimal
hexadecimal_long zero n = refl
hexadecimal_long (suc k) n = omega (arith, length-append (hexadecimal k (n / 16)) (capital (n % 16) ∷ []), hexadecimal_long k (n / 16))

bits_few : (b : ℕ) → length (bits_line b) ≤ 22
unfolding bits_line bits_text
bits_few b = simp length-append (omega (arith, hexadecimal_long 16 b))

-- ---- any value

pub signed_few : (z : ℤ) → Short (nat_abs z) → length (signed_words z) ≤ 21
unfolding signed_by
signed_few (pos n) h = omega (arith, decimal_few n h)
signed_few (negsuc n) h = simp length-append (omega (arith, decimal_few (suc n) h))

-- its numbers are words of the machine
abbrev pub SmallValue : Value → Type 0
SmallValue (number z) = Short (nat_abs z)
SmallValue (float x) = Unit {0}
SmallValue (flag b) = Unit {0}
SmallValue nothing = Unit {0}
SmallValue (cell b) = Short b

value_few : (v : Value) → SmallValue v → length (value_words v) ≤ 50
unfolding value_words truth_words cell_words
value_few (number z) h = omega (arith, signed_few z h)
value_few (float x) h = float_few (to_bits binary64 x)
value_few (flag true) h = omega arith
value_few (flag false) h = omega arith
value_few nothing h = omega arith
value_few (cell b) h = simp length-append (omega (arith, decimal_few b h))

value_bits_few : (v : Value) → length (bits_words v) ≤ 22
unfolding bits_words
value_bits_few (number z) = omega arith
value_bits_few (float x) = bits_few (to_bits binary64 x)
value_bits_few (flag b) = omega arith
value_bits_few nothing = omega arith
value_bits_few (cell b) = omega arith

pub value_lines_few : (v : Value) → SmallValue v → length (value_lines v) ≤ 79
unfolding value_lines
value_lines_few v h = simp length-append (omega (arith, value_few v h, value_bits_few v))
