-- Characters in UTF-8, byte by byte: which byte may begin one, how many more it has, and in which range the second
-- lies. That range leaves out longer spellings of a shorter character, the numbers that stand for no character, what
-- lies beyond the last one, and here also the control characters beyond ASCII, which a line shown to people must not
-- have.
use Rattle.std.specs.Prelude.{Bool, true, false, cond, ◌&&◌, List, [], ◌∷◌, eqb, leb, ltb, ℕ, zero, suc, ◌-◌}

unfoldable pub in_range : (low high b : ℕ) → Bool
in_range low high b = cond (ltb b low) false (leb b high)

unfoldable pub begins : ℕ → Bool
begins b = cond (ltb b 128) true (in_range 194 244 b)

unfoldable pub more_of : ℕ → ℕ
more_of b = cond (ltb b 128) 0 (cond (ltb b 224) 1 (cond (ltb b 240) 2 3))

unfoldable pub low_of : ℕ → ℕ
low_of b = cond (eqb b 194) 160 (cond (eqb b 224) 160 (cond (eqb b 240) 144 128))

unfoldable pub high_of : ℕ → ℕ
high_of b = cond (eqb b 237) 159 (cond (eqb b 244) 143 191)

-- ---- what may come next, where so many bytes of a character are still due and the next of them lies in this range

unfoldable pub fits_next : (due low high b : ℕ) → Bool
fits_next due low high b = cond (eqb due 0) (begins b) (in_range low high b)

unfoldable pub more_next : (due b : ℕ) → ℕ
more_next due b = cond (eqb due 0) (more_of b) (due - 1)

unfoldable pub low_next : (due b : ℕ) → ℕ
low_next due b = cond (eqb due 0) (low_of b) 128

unfoldable pub high_next : (due b : ℕ) → ℕ
high_next due b = cond (eqb due 0) (high_of b) 191

unfoldable pub reads_on : (due low high : ℕ) → List ℕ → Bool
reads_on due low high [] = eqb due 0
reads_on due low high (b ∷ t) =
    fits_next due low high b && reads_on (more_next due b) (low_next due b) (high_next due b) t

unfoldable pub is_readable : List ℕ → Bool
is_readable t = reads_on 0 0 0 t

-- ---- how many characters

-- a byte inside a character
unfoldable pub inner : ℕ → Bool
inner b = in_range 128 191 b

unfoldable pub heads : List ℕ → ℕ
heads [] = zero
heads (b ∷ t) = cond (inner b) (heads t) (suc (heads t))
