-- Numbers: a reader may call another at the same token for a lower rule, or at a later one; and there is room for a row
-- behind what was read.
use mathlib.Core.List.{List}
use mathlib.Core.Path.{◌≡◌}
use Rattle.std.specs.Prelude.{Ok, Err}
use Prim.Native.Nat.{ℕ, ◌+◌, ◌*◌, ◌-◌, ◌≤◌, ◌<◌}
use native.Mathlib.Omega.{arith}
use lib.ListN.{length}
use Rattle.language.specs.Sizes.{TOKENS, NODES, TABLE}
use Rattle.language.specs.Trees.{Exp, Exps}
use Rattle.phrases.specs.Parts.{Told, Room, Ahead, Placed, Answer, YieldsAll}
use Rattle.phrases.specs.Words.{Part, REACH}

module _ {count n f : ℕ} {w : List ℕ} (room : Room count w n f) where
  -- a token's kind can be asked
  pub ask : {ℓ : ℕ} → ℓ ≡ length w → (TABLE ≤ ℓ) × (count ≤ TOKENS)
  ask e = omega arith

  -- a row can be put
  pub row_fits : {ℓ k : ℕ} → ℓ ≡ length w → k < count → (TABLE ≤ ℓ) × (k < NODES)
  row_fits e a = omega arith

  -- and a node with a token of its own, and one behind it
  pub node_fits : {ℓ k i m : ℕ} → ℓ ≡ length w → i < count → k < count → m ≤ count + 3
      → (TABLE ≤ ℓ) × (i < TOKENS) × (k < NODES) × (m < REACH)
  node_fits e a b c = omega arith

  -- a token near those that are there fits into a word
  pub near : {m : ℕ} → m ≤ count + 3 → m < REACH
  near a = omega arith

  -- a row behind what was read from token n₂ and row f₂ on
  placed : (n₂ f₂ lo hi : ℕ) {ℓ i : ℕ} (g : Part) → Ahead n₂ f₂ lo hi g → hi ≤ count + 1 → f₂ + hi ≤ n₂ + count → ℓ ≡ length w → i < count
      → (TABLE ≤ ℓ) × (i < TOKENS) × Placed g
  placed n₂ f₂ lo hi (Ok t) a b c e i = (omega arith, omega arith, (omega arith, omega arith))
  placed n₂ f₂ lo hi (Err x) a b c e i = (omega arith, omega arith, tt)

  -- behind a tree
  pub top_fits : {T : Told Exp} {n₂ f₂ lo hi ℓ i : ℕ} {v v' : List ℕ} (g : Part) → Answer T count v n₂ f₂ lo hi g v' → hi ≤ count + 1
      → f₂ + hi ≤ n₂ + count → ℓ ≡ length w → i < count → (TABLE ≤ ℓ) × (i < TOKENS) × Placed g
  top_fits {n₂ = n₂} {f₂ = f₂} {lo = lo} {hi = hi} g a b c e i = placed n₂ f₂ lo hi g a.ahead b c e i

  -- and behind arguments
  pub call_fits : {T : Told Exps} {n₂ f₂ own ℓ i : ℕ} {v v' : List ℕ} (g : Part) → YieldsAll T own count v n₂ f₂ g v' → f₂ < n₂
      → ℓ ≡ length w → i < count → (TABLE ≤ ℓ) × (i < TOKENS) × Placed g
  call_fits {n₂ = n₂} {f₂ = f₂} g a c e i = placed n₂ f₂ (n₂ + 1) (count + 1) g a.ahead (omega arith) (omega arith) e i

  -- ---- the measure: twelve for each token that is left, and the rule's rank

  module _ {t : ℕ} (a b : ℕ) (e : 12 * (count - n) + a ≡ t) where
    -- the same token, and a lower rule
    pub lower : b < a → (12 * (count - n) + b < t) × Room count w n f
    lower h = (omega arith, room)

    -- and what else is asked
    pub lower_with : {E : Type 0} → b < a → E → (12 * (count - n) + b < t) × (Room count w n f × E)
    lower_with h x = (omega arith, (room, x))

    module _ {n₂ f₂ : ℕ} {v : List ℕ} (l : length v ≡ length w) (c : b < 12) (p : n < n₂) (i : n₂ ≤ count) (o : f₂ ≤ n₂) where
      -- a later token
      pub later : (12 * (count - n₂) + b < t) × Room count v n₂ f₂
      later = (omega arith, record { wide = omega arith; few = room.few; inside = i; owned = o })

      -- and what else is asked
      pub later_with : {E : Type 0} → E → (12 * (count - n₂) + b < t) × (Room count v n₂ f₂ × E)
      later_with x = (omega arith, (record { wide = omega arith; few = room.few; inside = i; owned = o }, x))

    -- at least two tokens later, where the rank may be that of two
    pub second_with : {n₂ f₂ : ℕ} {v : List ℕ} {E : Type 0} → length v ≡ length w → b < 24 → n + 1 < n₂ → n₂ ≤ count → f₂ ≤ n₂ → E
        → (12 * (count - n₂) + b < t) × (Room count v n₂ f₂ × E)
    second_with l c p i o x = (omega arith, (record { wide = omega arith; few = room.few; inside = i; owned = o }, x))
