-- A float in two words: read back it is the same, and that is so for the words of a float number's token.
use mathlib.Core.List.{List}
use mathlib.Core.Path.{◌≡◌, ap, ◌∙◌}
use Prim.Native.Nat.{ℕ, ◌+◌, ◌*◌, ◌/◌, ◌%◌, ◌<◌}
use native.Mathlib.Omega.{arith}
use lib.Dec.{T}
use lib.Ieee.{Float, binary64, fits, of_bits, to_bits}
use lib.Ieee.Bits.{of_bits-to_bits}
use lib.Ieee.Fits.{div-fits}
use lib.ListN.{get_or}
use Rattle.language.specs.Tokens.{Token, Spelling, FLOAT_NUMBER, At, past, kind_at, spelling_at}
use Rattle.language.specs.Decimals.{float_of}
use Rattle.layout.specs.Table.{token_high, token_value}
use Rattle.layout.specs.Names.{Stand, float_bits, value_word, high_word}
use Rattle.layout.specs.Values.{HALF}

-- the halves of a number make it up
pub halves : (n : ℕ) → HALF * (n / HALF) + n % HALF ≡ n
halves n = omega arith

-- a float is that of its bits' halves
pub float_back : (x : Float) → T (fits binary64 x) → of_bits binary64 (HALF * (to_bits binary64 x / HALF) + to_bits binary64 x % HALF) ≡ x
float_back x t = ap (of_bits binary64) (halves (to_bits binary64 x)) ∙ of_bits-to_bits binary64 x t

-- what a float number is worth is a float of 64 bits
pub float_of_fits : (s : Spelling) → T (fits binary64 (float_of s))
unfolding float_of
float_of_fits s = div-fits binary64 _ _

-- the words of a float number's token hold what it is worth
pub float_held : {w : List ℕ} {count : ℕ} {ts : List Token} → Stand w count ts → (i : ℕ) → i < count → At ts i FLOAT_NUMBER
    → of_bits binary64 (HALF * token_high w i + token_value w i) ≡ float_of (spelling_at ts i)
unfolding kind_at spelling_at value_word high_word float_bits
float_held {w} {count} {ts} s i l e =
    let k : (get_or ts i past).kind ≡ FLOAT_NUMBER = e in
    let a : token_high w i ≡ to_bits binary64 (float_of (get_or ts i past).spelling) / HALF = s.highs i l ∙ rw k in
    let b : token_value w i ≡ to_bits binary64 (float_of (get_or ts i past).spelling) % HALF = s.values i l ∙ rw k in
    rw (a, b) (float_back (float_of (get_or ts i past).spelling) (float_of_fits (get_or ts i past).spelling))
