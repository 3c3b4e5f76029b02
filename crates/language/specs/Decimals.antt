-- What a float number is worth, by its spelling (R08.3): the whole number of all its digits, divided once by the power
-- of ten for those behind its point.
use Rattle.std.specs.Prelude.{cond, [], ◌∷◌, ℕ, ◌+◌, ◌*◌, ◌-◌, ◌^◌, eqb, pos, Float, length}
use Prim.Native.Char.{code}
use Rattle.std.specs.Float.{binary64}
use Rattle.std.specs.Float.Ieee.{div, of_int}
use Rattle.language.specs.Tokens.{Spelling}

-- the digits as they follow one another, the point left out, read on from the number n
unfoldable pub digits_from : ℕ → Spelling → ℕ
digits_from n [] = n
digits_from n (b ∷ s) = cond (eqb b (code ".")) (digits_from n s) (digits_from (n * 10 + (b - code "0")) s)

-- how many stand behind the point
unfoldable pub behind_point : Spelling → ℕ
behind_point [] = 0
behind_point (b ∷ s) = cond (eqb b (code ".")) (length s) (behind_point s)

unfoldable pub float_of : Spelling → Float
float_of s = div binary64 (of_int binary64 (pos (digits_from 0 s))) (of_int binary64 (pos (10 ^ behind_point s)))
