-- What a number is among a program's words: at least one byte, and each byte a digit; and which one it is, up to a
-- limit.
use Rattle.std.specs.Prelude.{Bool, true, false, cond, ◌&&◌, List, [], ◌∷◌, ◌≡◌, eqb, leb, ℤ, pos, neg_ℤ, ℕ, ◌≤◌, ◌<◌, Option, Some, None}
use Prim.Native.Char.{code}
use Rattle.language.specs.Text.{is_digit, number_from}

unfoldable pub all_digits : List ℕ → Bool
all_digits [] = true
all_digits (b ∷ t) = is_digit b && all_digits t

unfoldable pub is_number : List ℕ → Bool
is_number [] = false
is_number (b ∷ t) = all_digits (b ∷ t)

-- r is the number n if that is at most `most`, and else too large as n is
abbrev pub Spells : (most n r : ℕ) → Type 0
Spells most n r = (n ≤ most → r ≡ n) × (most < n → most < r)

unfoldable pub number_up_to : (most : ℕ) → List ℕ → Option ℕ
number_up_to most w = cond (is_number w && leb (number_from 10 0 w) most) (Some (number_from 10 0 w)) None

-- ---- with or without a sign

-- the largest sum that a shift can come to
abbrev pub AMOUNT : ℕ
AMOUNT = 140737488355328

unfoldable pub amount_by : (ℕ → ℤ) → List ℕ → Option ℤ
amount_by f w = cond (is_number w && leb (number_from 10 0 w) AMOUNT) (Some (f (number_from 10 0 w))) None

unfoldable pub amount_in : List ℕ → Option ℤ
amount_in [] = None
amount_in (b ∷ w) = cond (eqb b (code "-")) (amount_by (λ n. neg_ℤ (pos n)) w) (amount_by pos (b ∷ w))
