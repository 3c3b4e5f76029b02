-- What is told of a float is its number; and some floats in characters, by computation.
use borrow.Author.Tests.{ne_eqb}
use lib.Dec.{leb, eqb}
use lib.Ieee.{binary64, hid, low, ones, prec, top, of_bits, of_fields}
use lib.Ieee.Exact.{HasValue, odd_sign}
use mathlib.Core.Bool.{Bool, cond}
use mathlib.Core.Path.{◌≡◌, refl}
use native.Mathlib.Omega.{arith}
use Prim.Native.Nat.{ℕ, zero, suc, ◌+◌, ◌-◌, ◌*◌, ◌/◌, ◌%◌, ◌^◌, ◌<◌}
use Rattle.language.specs.Tokens.{spell}
use Rattle.page.specs.Floats.{unsigned, ENDLESS, significand, steps, thousandths, is_exact, sign_text, about_text}
use Rattle.page.specs.Floats.{thousandths_text, decimal_text, product_text, float_text, hexadecimal, bits_text}
use Rattle.page.specs.Text.{decimal_of, places}

-- ---- the number

by_fields : (s : Bool) (x t : ℕ) → x < ones binary64
    → HasValue (of_fields binary64 s x t) s (cond (eqb x 0) t (hid binary64 + t) * 2 ^ (x - 1)) (2 ^ low binary64)
unfolding of_fields
by_fields s zero t h = odd_sign (prec binary64) s t 0 (low binary64)
by_fields s (suc x) t h =
    let e : suc x - 1 ≡ x = omega arith in
    rw (ne_eqb (suc x) (ones binary64) (λ k. omega arith), ne_eqb (suc x) 0 (λ k. omega arith), e)
    (odd_sign (prec binary64) s (hid binary64 + t) x (low binary64))

-- the float that has these bits, if it is finite, is told by its significand and its steps
pub number_told : (b : ℕ) → unsigned b < ENDLESS
    → HasValue (of_bits binary64 b) (leb (top binary64) b) (significand b * 2 ^ steps b) (2 ^ low binary64)
unfolding of_bits significand steps
number_told b h = by_fields (leb (top binary64) b) (unsigned b / hid binary64) (b % hid binary64) (omega arith)

-- ---- characters

quarter : float_text 4614500768194494464 ≡ spell "3.250"
unfolding float_text decimal_text product_text about_text is_exact sign_text thousandths_text thousandths significand steps decimal_of places
quarter = refl

owed : float_text 13837872805049270272 ≡ spell "-3.250"
unfolding float_text decimal_text product_text about_text is_exact sign_text thousandths_text thousandths significand steps decimal_of places
owed = refl

third : float_text 4599676419421066581 ≡ spell "~0.333"
unfolding float_text decimal_text product_text about_text is_exact sign_text thousandths_text thousandths significand steps decimal_of places
third = refl

rounded_up : float_text 4604180019048437077 ≡ spell "~0.667"
unfolding float_text decimal_text product_text about_text is_exact sign_text thousandths_text thousandths significand steps decimal_of places
rounded_up = refl

tenth : float_text 4591870180066957722 ≡ spell "~0.100"
unfolding float_text decimal_text product_text about_text is_exact sign_text thousandths_text thousandths significand steps decimal_of places
tenth = refl

dozen : float_text 4622945017495814144 ≡ spell "12.000"
unfolding float_text decimal_text product_text about_text is_exact sign_text thousandths_text thousandths significand steps decimal_of places
dozen = refl

nothing_owed : float_text 9223372036854775808 ≡ spell "-0.000"
unfolding float_text decimal_text product_text about_text is_exact sign_text thousandths_text thousandths significand steps decimal_of places
nothing_owed = refl

least : float_text 1 ≡ spell "~0.000"
unfolding float_text decimal_text product_text about_text is_exact sign_text thousandths_text thousandths significand steps decimal_of places
least = refl

half_up : float_text 4566650022153682944 ≡ spell "~0.002"
unfolding float_text decimal_text product_text about_text is_exact sign_text thousandths_text thousandths significand steps decimal_of places
half_up = refl

-- the largest: 9007199254740991*2^971
largest : (significand 9218868437227405311 ≡ 9007199254740991) × (steps 9218868437227405311 - low binary64 ≡ 971)
unfolding significand steps
largest = (refl, refl)

endless : float_text 18442240474082181120 ≡ spell "-infinity"
unfolding float_text decimal_text product_text about_text is_exact sign_text thousandths_text thousandths significand steps decimal_of places
endless = refl

none : float_text 9221120237041090560 ≡ spell "not a number"
unfolding float_text decimal_text product_text about_text is_exact sign_text thousandths_text thousandths significand steps decimal_of places
none = refl

in_bits : bits_text 4614500768194494464 ≡ spell "400A000000000000"
unfolding bits_text hexadecimal
in_bits = refl
