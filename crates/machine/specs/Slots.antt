-- Slots of work memory as lists, the newest first: what they hold, and the cells that they are.
use Rattle.std.specs.Prelude.{cond, List, [], ◌∷◌, ◌≡◌, ℕ, zero, suc, ◌+◌, ◌≤◌, ◌<◌, eqb, get_or, MatchOption}
use Rattle.std.specs.Prelude as Code
use Rattle.std.proofs.Math.Option.{Option, none, some}
use Rattle.language.specs.State as State
use Rattle.language.specs.State.{Cells, no_cell, live}
use Rattle.layout.specs.Slots.{key_at, value_at}
use Rattle.layout.specs.Frames.{CELLS_AT}

pub record Slot : Type 0 where
  pub key : ℕ
  pub holds : State.Value

abbrev pub slot_at : List ℕ → ℕ → ℕ → Slot
slot_at w at i = record { key = key_at w at i; holds = value_at w at i }

-- the n slots from word `at` on, the last first
unfoldable pub slots : List ℕ → ℕ → ℕ → List Slot
slots w at zero = []
slots w at (suc n) = slot_at w at n ∷ slots w at n

-- what n slots hold, in their order, the first of them slot k
unfoldable pub values_from : List ℕ → ℕ → ℕ → ℕ → List State.Value
values_from w at k zero = []
values_from w at k (suc n) = value_at w at k ∷ values_from w at (k + 1) n

unfoldable pub find : ℕ → List Slot → Option State.Value
find k [] = none
find k (s ∷ ss) = cond (eqb k s.key) (some s.holds) (find k ss)

unfoldable pub cells_of : List Slot → Cells
cells_of [] = no_cell
cells_of (s ∷ ss) = live s.key s.holds (cells_of ss)

-- the words from lo up to hi are the same
abbrev pub Same : List ℕ → List ℕ → ℕ → ℕ → Type 0
Same v w lo hi = (k : ℕ) → lo ≤ k → k < hi → get_or v k 0 ≡ get_or w k 0

-- the first n cells lie in the order of their births
abbrev pub Rising : List ℕ → ℕ → Type 0
Rising w n = (i j : ℕ) → i < j → j < n → key_at w CELLS_AT i < key_at w CELLS_AT j

-- r is where the cell of that birth lies among the first n, if it is one of them
pub record Sought (w : List ℕ) (n birth : ℕ) (r : Code.Option ℕ) : Type 0 where
  pub found : MatchOption r ((i : ℕ) → i < n → key_at w CELLS_AT i ≡ birth → ⊥)
      (λ i. (i < n) × (key_at w CELLS_AT i ≡ birth))
