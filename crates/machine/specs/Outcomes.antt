-- The state of a run as it lies in words and numbers, and what the functions that work on operands ask and promise.
use Rattle.std.specs.Prelude.{List, [], ◌∷◌, ◌≡◌, ℕ, zero, suc, ◌+◌, ◌-◌, ◌≤◌, ◌<◌, ℤ, length, get_or, Result, Ok, Err}
use Rattle.language.specs.Sizes.{CELLS, WORK}
use Rattle.language.specs.Trees.{new}
use Rattle.language.specs.State as M
use Rattle.language.specs.State.{value, stop, as_int, want}
use Rattle.language.specs.Meaning.{fit, put, apply_unary}
use Rattle.layout.specs.Slots.{key_at}
use Rattle.layout.specs.Frames.{CELLS_AT}
use Rattle.layout.specs.Values.{meant}
use Rattle.machine.specs.Slots.{slots, cells_of, Same, Rising}
use Rattle.numbers.specs.Meanings.{stop_meant}
use Rattle.machine.specs.declared.state.Tally.{Tally}
use Rattle.layout.specs.declared.values.Value.{Value}
use Rattle.numbers.specs.declared.Stop.{Stop}

-- ---- what the code's words and numbers stand for

-- the first n bytes of an output, the last first
unfoldable pub bytes : List ℕ → ℕ → List ℕ
bytes o zero = []
bytes o (suc n) = get_or o n 0 ∷ bytes o n

-- the state that work memory w, output o and the numbers s are
abbrev pub memory : List ℕ → List ℕ → Tally → M.State
memory w o s = record {
  units = s.units;
  births = s.births;
  room = length o - s.printed;
  cells = cells_of (slots w CELLS_AT s.cells);
  printed = bytes o s.printed;
}

-- a value, or why the run stops at the node
abbrev pub Outcome : Type 0
Outcome = Result Value Stop

-- how a node at token i ends in a state
abbrev pub told : ℕ → M.State → Outcome → M.Outcome
told i σ (Ok v) = value (meant v) σ
told i σ (Err y) = stop (stop_meant y) i σ

-- the code tells what the meaning says; where the meaning is stuck it may tell anything
pub data Tells : M.Outcome → M.Outcome → Type 0 where
  tells : {o : M.Outcome} → Tells o o
  anything : {o : M.Outcome} → Tells o M.stuck

-- ---- what every step keeps

-- the live cells of s lie in work memory, in the order of their births
pub record Room (w : List ℕ) (s : Tally) : Type 0 where
  pub long : WORK ≤ length w
  pub few : s.cells ≤ CELLS
  pub low : (i : ℕ) → i < s.cells → key_at w CELLS_AT i ≤ s.births
  pub rising : Rising w s.cells

-- From w and s to w' and t: the words below the cells and those past the ones that are asked for stay; live cells keep
-- their birth numbers, and new ones are born later.
pub record Kept (w w' : List ℕ) (s t : Tally) : Type 0 where
  pub below : Same w' w 0 CELLS_AT
  pub beyond : (k : ℕ) → WORK ≤ k → get_or w' k 0 ≡ get_or w k 0
  pub long : length w' ≡ length w
  pub above : s.cells ≤ t.cells
  pub older : s.births ≤ t.births
  pub keys : (i : ℕ) → i < s.cells → key_at w' CELLS_AT i ≡ key_at w CELLS_AT i
  pub newer : (i : ℕ) → s.cells ≤ i → i < t.cells → s.births < key_at w' CELLS_AT i

-- ---- operands are known: m is what the meaning does at a token with the state

abbrev pub Means : Type 0
Means = ℕ → M.State → M.Outcome

-- nothing is changed, whatever the state is
abbrev pub Reckoned : Means → Outcome → Type 0
Reckoned m r = (i : ℕ) (σ : M.State) → told i σ r ≡ m i σ

abbrev pub Fitted : ℤ → Outcome → Type 0
Fitted z r = Reckoned (λ i σ. fit i z σ) r

-- the same where the meaning may be stuck
abbrev pub Judged : Means → Outcome → Type 0
Judged m r = (i : ℕ) (σ : M.State) → Tells (told i σ r) (m i σ)

-- nothing is changed in this work memory
abbrev pub Answered : Means → List ℕ → Tally → Outcome → Type 0
Answered m w s r = (i : ℕ) (o : List ℕ) → Tells (told i (memory w o s) r) (m i (memory w o s))

-- work memory alone is changed
pub record Applied (m : Means) (w w' : List ℕ) (s : Tally) (r : Outcome) : Type 0 where
  pub kept : Kept w w' s s
  pub room : Room w' s
  pub right : (i : ℕ) (o : List ℕ) → Tells (told i (memory w' o s) r) (m i (memory w o s))

-- a cell more
abbrev pub born : Tally → Tally
born s = record { units = s.units; births = s.births + 1; cells = s.cells + 1; printed = s.printed }

abbrev pub after_birth : Outcome → Tally → Tally
after_birth (Ok v) s = born s
after_birth (Err y) s = s

pub record Created (v : M.Value) (w w' : List ℕ) (s : Tally) (r : Outcome) : Type 0 where
  pub kept : Kept w w' s (after_birth r s)
  pub room : Room w' (after_birth r s)
  pub right : (i : ℕ) (o : List ℕ)
      → Tells (told i (memory w' o (after_birth r s)) r) (apply_unary i new v (memory w o s))

-- a byte more
abbrev pub byte_more : Tally → Tally
byte_more s = record { units = s.units; births = s.births; cells = s.cells; printed = s.printed + 1 }

abbrev pub after_byte : Outcome → Tally → Tally
after_byte (Ok v) s = byte_more s
after_byte (Err y) s = s

-- the output alone is changed
pub record Printed (v : M.Value) (o o' : List ℕ) (s : Tally) (r : Outcome) : Type 0 where
  pub wide : length o' ≡ length o
  pub rest : (k : ℕ) → (after_byte r s).printed ≤ k → get_or o' k 0 ≡ get_or o k 0
  pub fits : (after_byte r s).printed ≤ length o
  pub right : (i : ℕ) (w : List ℕ)
      → Tells (told i (memory w o' (after_byte r s)) r) (want (as_int v) λ z. put i z (memory w o s))
