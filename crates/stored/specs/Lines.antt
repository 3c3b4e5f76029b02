-- What is found on a line of an input t, and in its count (R09.2, R09.6).
use Rattle.std.specs.Prelude.{Option, Some, None, length, drop, List, ◌≡◌, ℕ, ◌+◌, ◌≤◌, ◌<◌}
use Rattle.std.proofs.Math.Seq.{slice}
use Rattle.language.specs.Stored.{hex, FirstLine, FirstCount}
use Rattle.tokens.specs.Shown.{told}

-- a line of hexadecimal from p up to its LF at e, and the bytes that it holds
pub record LineTo (t : List ℕ) (p e : ℕ) : Type 0 where
  pub some : p < e
  pub inside : e < length t
  pub line : FirstLine (drop p t) (told (slice p e t)) (drop (e + 1) t)
  pub digits : hex (told (slice p e t)) ≡ slice p e t

abbrev pub IsLine : List ℕ → ℕ → Option ℕ → Type 0
IsLine t p (Some e) = LineTo t p e
IsLine t p None = (s more : List ℕ) → FirstLine (drop p t) s more → ⊥

-- the count n, and five bytes of which it is the line
pub record CountTo (t : List ℕ) (n : ℕ) : Type 0 where
  pub inside : 5 ≤ length t
  pub count : FirstCount t n (drop 5 t)

abbrev pub IsCount : List ℕ → Option ℕ → Type 0
IsCount t (Some n) = CountTo t n
IsCount t None = (n : ℕ) (rest : List ℕ) → FirstCount t n rest → ⊥
