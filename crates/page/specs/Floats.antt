-- A float in characters that a clerk reads, and its bits. All goes by the 64 bits, whose fields are those of
-- `lib.Ieee.of_bits`.
use Rattle.std.specs.Prelude.{Bool, cond, List, [], ◌∷◌, ◌++◌, eqb, ltb, ℕ, zero, suc, ◌+◌, ◌-◌, ◌*◌, ◌/◌, ◌%◌, ◌^◌}
use lib.Ieee.{binary64, hid, low, ones, top}
use Rattle.io.specs.Digits.{last_digits}
use Rattle.language.specs.Tokens.{spell}
use Rattle.page.specs.Text.{decimal_of}

-- ---- what the bits stand for

-- without the sign; an infinity's are these, and not-a-numbers lie above it
abbrev pub unsigned : ℕ → ℕ
unsigned b = b % top binary64

abbrev pub ENDLESS : ℕ
ENDLESS = ones binary64 * hid binary64

-- a finite one is, but for its sign, `significand b * 2 ^ steps b / 2 ^ low binary64`
unfoldable pub significand : ℕ → ℕ
significand b = cond (eqb (unsigned b / hid binary64) 0) (b % hid binary64) (hid binary64 + b % hid binary64)

unfoldable pub steps : ℕ → ℕ
steps b = unsigned b / hid binary64 - 1

-- ---- q / 2 ^ s in thousandths: the nearest number of them, half of one counting as one, and whether nothing is lost

unfoldable pub thousandths : (q s : ℕ) → ℕ
thousandths q s = (q * 1000 + 2 ^ s / 2) / 2 ^ s

unfoldable pub is_exact : (q s : ℕ) → Bool
is_exact q s = eqb (q * 1000 % 2 ^ s) 0

-- ---- in characters

unfoldable pub sign_text : ℕ → List ℕ
sign_text b = cond (ltb b (top binary64)) [] (spell "-")

-- `~` says that what follows is not all
unfoldable pub about_text : (q s : ℕ) → List ℕ
about_text q s = cond (is_exact q s) [] (spell "~")

-- three digits behind a point
unfoldable pub thousandths_text : ℕ → List ℕ
thousandths_text n = decimal_of (n / 1000) ++ spell "." ++ last_digits 10 3 n

-- below 2 ^ 52, where the last digit of the significand is worth less than one
unfoldable pub decimal_text : ℕ → List ℕ
decimal_text b =
    about_text (significand b) (low binary64 - steps b) ++ sign_text b
    ++ thousandths_text (thousandths (significand b) (low binary64 - steps b))

-- from there on, a whole number times a power of two
unfoldable pub product_text : ℕ → List ℕ
product_text b = sign_text b ++ decimal_of (significand b) ++ spell "*2^" ++ decimal_of (steps b - low binary64)

unfoldable pub float_text : ℕ → List ℕ
float_text b =
    cond (ltb ENDLESS (unsigned b)) (spell "not a number")
    (cond (eqb (unsigned b) ENDLESS) (sign_text b ++ spell "infinity")
    (cond (ltb (steps b) (low binary64)) (decimal_text b) (product_text b)))

-- ---- the bits, as the last k digits of hexadecimal

abbrev pub capital : ℕ → ℕ
capital d = cond (ltb d 10) (48 + d) (55 + d)

unfoldable pub hexadecimal : (k : ℕ) → ℕ → List ℕ
hexadecimal zero n = []
hexadecimal (suc k) n = hexadecimal k (n / 16) ++ (capital (n % 16) ∷ [])

unfoldable pub bits_text : ℕ → List ℕ
bits_text b = hexadecimal 16 b
