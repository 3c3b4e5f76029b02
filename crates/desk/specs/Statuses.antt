-- The status that the program ends with: 0 where all is well, 1 where a sheet or a shift is refused or stopped, and 2 where
-- the words do not serve, or something cannot be read or written.
use Rattle.std.specs.Prelude.{◌⊎◌, ◌≡◌, ℕ, ◌≤◌}

abbrev pub Status : ℕ → Type 0
Status r = r ≤ 2

-- the status that is due, or 2 where that could not be told
abbrev pub Due : (due r : ℕ) → Type 0
Due due r = (r ≡ due) ⊎ (r ≡ 2)
