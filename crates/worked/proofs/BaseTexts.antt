-- Numbers in hex and binary, and what only looks like one, computed by the executable twin (R06.2 to R06.4).
use mathlib.Core.List.{[], ◌∷◌}
use mathlib.Core.Path.{refl}
use Prim.Native.Nat.{ℕ}
use Prim.Native.String.{String}
use Rattle.language.proofs.Text.Edition.{scan, computed}
use Rattle.language.proofs.Text.Scanner.Result.{split, flawed}
use Rattle.language.specs.Text.{Splits, Flawed}
use Rattle.language.specs.Text.Flaw.{strange_byte, large_number}
use Rattle.language.specs.Tokens.{EDITION_1, spell, Token, NAME, NUMBER, ELSE, MINUS}

-- a number v, spelled w, at p
abbrev n : ℕ → String → ℕ → Token
n v w p = record { kind = NUMBER; value = v; spelling = spell w; place = p }

-- a name
abbrev x : String → ℕ → Token
x w p = record { kind = NAME; value = 0; spelling = spell w; place = p }

-- both cases, and both bases
pub masks : Splits EDITION_1 (spell "0xfF 0b101") (n 255 "0xfF" 0 ∷ n 5 "0b101" 5 ∷ [])
unfolding scan
masks = computed (spell "0xfF 0b101") (split (n 255 "0xfF" 0 ∷ n 5 "0b101" 5 ∷ [])) refl

-- each digit of hex is worth what it should be
pub all_digits : Splits EDITION_1 (spell "0x1234567 0x89abcd 0xEF 0xAB 0xCD")
    (n 19088743 "0x1234567" 0 ∷ n 9022413 "0x89abcd" 10 ∷ n 239 "0xEF" 19 ∷ n 171 "0xAB" 24 ∷ n 205 "0xCD" 29 ∷ [])
unfolding scan
all_digits =
    computed (spell "0x1234567 0x89abcd 0xEF 0xAB 0xCD")
    (split (n 19088743 "0x1234567" 0 ∷ n 9022413 "0x89abcd" 10 ∷ n 239 "0xEF" 19 ∷ n 171 "0xAB" 24 ∷ n 205 "0xCD" 29 ∷ [])) refl

-- the last that can be written, however many zeros lead
pub largest : Splits EDITION_1 (spell "0x00000000007FFFFFFF") (n 2147483647 "0x00000000007FFFFFFF" 0 ∷ [])
unfolding scan
largest = computed (spell "0x00000000007FFFFFFF") (split (n 2147483647 "0x00000000007FFFFFFF" 0 ∷ [])) refl

pub largest_binary : Splits EDITION_1 (spell "0b1111111111111111111111111111111") (n 2147483647 "0b1111111111111111111111111111111" 0 ∷ [])
unfolding scan
largest_binary =
    computed (spell "0b1111111111111111111111111111111") (split (n 2147483647 "0b1111111111111111111111111111111" 0 ∷ [])) refl

-- and the first that cannot, told at its `0`
pub too_large : Flawed EDITION_1 (spell " 0x80000000") large_number 1
unfolding scan
too_large = computed (spell " 0x80000000") (flawed large_number 1) refl

pub too_large_binary : Flawed EDITION_1 (spell "0b10000000000000000000000000000000") large_number 0
unfolding scan
too_large_binary = computed (spell "0b10000000000000000000000000000000") (flawed large_number 0) refl

-- without a digit of the base it is the number 0 and a name
pub no_digit : Splits EDITION_1 (spell "0x 0xg 0b2 0b") (n 0 "0" 0 ∷ x "x" 1 ∷ n 0 "0" 3 ∷ x "xg" 4 ∷ n 0 "0" 7 ∷ x "b2" 8 ∷ n 0 "0" 11 ∷ x "b" 12 ∷ [])
unfolding scan
no_digit =
    computed (spell "0x 0xg 0b2 0b")
    (split (n 0 "0" 0 ∷ x "x" 1 ∷ n 0 "0" 3 ∷ x "xg" 4 ∷ n 0 "0" 7 ∷ x "b2" 8 ∷ n 0 "0" 11 ∷ x "b" 12 ∷ [])) refl

-- and so behind another zero, and with a large letter
pub no_base : Splits EDITION_1 (spell "00x1 0X1 0B1") (n 0 "00" 0 ∷ x "x1" 2 ∷ n 0 "0" 5 ∷ x "X1" 6 ∷ n 0 "0" 9 ∷ x "B1" 10 ∷ [])
unfolding scan
no_base =
    computed (spell "00x1 0X1 0B1") (split (n 0 "00" 0 ∷ x "x1" 2 ∷ n 0 "0" 5 ∷ x "X1" 6 ∷ n 0 "0" 9 ∷ x "B1" 10 ∷ [])) refl

-- a digit ends where the base has it no more
pub ends : Splits EDITION_1 (spell "0x1else 0b1else 0b12")
    (n 30 "0x1e" 0 ∷ x "lse" 4 ∷ n 1 "0b1" 8 ∷ record { kind = ELSE; value = 0; spelling = spell "else"; place = 11 } ∷ n 1 "0b1" 16 ∷ n 2 "2" 19 ∷ [])
unfolding scan
ends =
    computed (spell "0x1else 0b1else 0b12")
    (split (n 30 "0x1e" 0 ∷ x "lse" 4 ∷ n 1 "0b1" 8 ∷ record { kind = ELSE; value = 0; spelling = spell "else"; place = 11 } ∷ n 1 "0b1" 16
    ∷ n 2 "2" 19 ∷ [])) refl

-- the sign is an operator, and there is no point
pub sign : Splits EDITION_1 (spell "-0x1") (record { kind = MINUS; value = 0; spelling = spell "-"; place = 0 } ∷ n 1 "0x1" 1 ∷ [])
unfolding scan
sign = computed (spell "-0x1") (split (record { kind = MINUS; value = 0; spelling = spell "-"; place = 0 } ∷ n 1 "0x1" 1 ∷ [])) refl

pub no_point : Flawed EDITION_1 (spell "0x1.5") strange_byte 3
unfolding scan
no_point = computed (spell "0x1.5") (flawed strange_byte 3) refl
