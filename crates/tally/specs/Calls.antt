-- Bytes that are put one behind the other into an array, as a call is written (R14.5).
use Rattle.std.specs.Prelude.{List, ◌++◌, ◌≡◌, ℕ, ◌+◌, ◌≤◌, length, take}
use Rattle.language.specs.Tokens.{Spelling, spell}
use Rattle.language.specs.Shift.{PAY}

-- what every call begins with
abbrev pub OPENING : Spelling
OPENING = PAY ++ spell "("

-- these are the bytes put so far, at most so many, and the array has them all, as who lends them has to know
pub record Shows (array : List ℕ) (len : ℕ) (bytes : List ℕ) (most : ℕ) : Type 0 where
  pub text : take len array ≡ bytes
  pub room : len ≤ most
  pub inside : len ≤ length array

-- those behind what stood there, at most so many more
abbrev pub Longer : List ℕ → ℕ → List ℕ → ℕ → List ℕ → ℕ → Type 0
Longer array len bytes more array' len' = Shows array' len' (take len array ++ bytes) (len + more)
