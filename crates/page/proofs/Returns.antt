-- A line with and without a carriage return at its end.
use borrow.Author.Tests.{eq-eqb, ne_eqb}
use lib.ListN.{length, get_or, take}
use mathlib.Core.List.{List, [], ◌∷◌}
use mathlib.Core.Path.{◌≡◌}
use native.Mathlib.Omega.{arith}
use Prim.Native.Nat.{ℕ, ◌-◌, ◌≤◌}
use Rattle.page.specs.Lines.{without_return}

-- the last byte is one
pub with_return : (t : List ℕ) → get_or t (length t - 1) 0 ≡ 13 → take (length t - 1) t ≡ without_return t
unfolding without_return
with_return t e = rw (eq-eqb _ 13 e)

-- it is another
pub no_return : (t : List ℕ) → (get_or t (length t - 1) 0 ≡ 13 → ⊥) → t ≡ without_return t
unfolding without_return
no_return t e = rw (ne_eqb (get_or t (length t - 1) 0) 13 e)

-- there is none
pub no_line : (t : List ℕ) → length t ≤ 0 → t ≡ without_return t
no_line [] h = no_return [] (λ e. absurd (omega arith))
no_line (b ∷ t) h = absurd (omega arith)
