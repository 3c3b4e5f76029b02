-- Cells lie in the order of their births: halving what is left finds one, and what was found is what the meaning holds.
use mathlib.Core.Path.{◌≡◌, refl, sym, subst, ◌∙◌}
use mathlib.Core.Bool.{Bool, true, false}
use mathlib.Core.List.{List}
use mathlib.Core.Option.{none, some}
use Prim.Native.Nat.{ℕ, zero, suc, ◌+◌, ◌<◌, ◌≤◌}
use native.Mathlib.Omega.{arith}
use lib.Dec.{ltb, eqb}
use borrow.Author.Tests.{ltb-true, ltb-false, eqb-true, eqb-false}
use Rattle.std.specs.Prelude.{Some, None}
use Rattle.layout.specs.Slots.{key_at, value_at}
use Rattle.layout.specs.Frames.{CELLS_AT}
use Rattle.machine.specs.Slots.{slots, find, Rising, Sought}
use Rattle.machine.proofs.Slotted.{find_here, find_past, find_none}
use Rattle.machine.proofs.Storing.{PassedBy}

-- ---- halving

-- the cells below `low` were born before, those from `high` on after
pub record Between (w : List ℕ) (n birth low high : ℕ) : Type 0 where
  pub upto : high ≤ n
  pub below : (i : ℕ) → i < low → key_at w CELLS_AT i < birth
  pub above : (i : ℕ) → high ≤ i → i < n → birth < key_at w CELLS_AT i

module _ {w : List ℕ} {n birth low high : ℕ} (b : Between w n birth low high) (r : Rising w n) (m born : ℕ) (inside : m < high)
    (e : born ≡ key_at w CELLS_AT m) where
  -- the one in the middle was born before
  pub upper : born < birth → Between w n birth (m + 1) high
  upper h = record { upto = b.upto; below = below; above = b.above }
    where
      below : (i : ℕ) → i < m + 1 → key_at w CELLS_AT i < birth
      below i l = by (ltb i m) refl
        where
          by : (x : Bool) → ltb i m ≡ x → key_at w CELLS_AT i < birth
          by true d = omega (arith, r i m (ltb-true i m d) (omega (arith, b.upto)), e)
          by false d = let a : m ≡ i = omega (arith, ltb-false i m d) in subst (λ (k : ℕ). key_at w CELLS_AT k < birth) a (omega (arith, e))

  -- it was born after
  pub lower : (born ≡ birth → ⊥) → birth ≤ born → Between w n birth low m
  lower other h = record { upto = omega (arith, b.upto); below = b.below; above = above }
    where
      late : birth < key_at w CELLS_AT m
      late = by (eqb born birth) refl
        where
          by : (x : Bool) → eqb born birth ≡ x → birth < key_at w CELLS_AT m
          by true d = absurd (other (eqb-true born birth d))
          by false d = let a = eqb-false born birth d in omega (arith, a, e)

      above : (i : ℕ) → m ≤ i → i < n → birth < key_at w CELLS_AT i
      above i l u = by (ltb m i) refl
        where
          by : (x : Bool) → ltb m i ≡ x → birth < key_at w CELLS_AT i
          by true d = omega (arith, r m i (ltb-true m i d) u, late)
          by false d = let a : m ≡ i = omega (arith, ltb-false m i d) in subst (λ (k : ℕ). birth < key_at w CELLS_AT k) a late

  -- it is the one
  pub struck : born ≡ birth → Sought w n birth (Some m)
  struck h = record { found = (omega (arith, b.upto), sym e ∙ h) }

-- at first all are left
pub all_left : (w : List ℕ) (n birth : ℕ) → Between w n birth 0 n
all_left w n birth = record { upto = omega arith; below = λ i l. absurd (omega arith); above = λ i l u. absurd (omega arith) }

-- none is left
pub none_left : {w : List ℕ} {n birth low high : ℕ} → Between w n birth low high → high ≤ low → Sought w n birth None
none_left {w} {n} {birth} {low} {high} b h = record { found = miss }
  where
    miss : (i : ℕ) → i < n → key_at w CELLS_AT i ≡ birth → ⊥
    miss i u d = by (ltb i low) refl
      where
        by : (x : Bool) → ltb i low ≡ x → ⊥
        by true q = omega (arith, b.below i (ltb-true i low q), d)
        by false q = let a = ltb-false i low q in omega (arith, b.above i (omega arith) u, d)

-- ---- what was sought

-- no later cell has the birth of the one that was found
pub passed_above : {w : List ℕ} {n birth i : ℕ} → Rising w n → Sought w n birth (Some i) → PassedBy w CELLS_AT birth (i + 1) n
passed_above {i = i} r h j l v d = omega (arith, h.found.1, r i j (omega arith) v, d)

find_at : (w : List ℕ) (at key i n : ℕ) → i < n → key_at w at i ≡ key → PassedBy w at key (i + 1) n → find key (slots w at n) ≡ some (value_at w at i)
find_at w at key i zero l e h = absurd (omega arith)
find_at w at key i (suc n) l e h = by (ltb i n) refl (λ m. find_at w at key i n m e (λ j a b. h j a (omega arith)))
  where
    by : (x : Bool) → ltb i n ≡ x → (i < n → find key (slots w at n) ≡ some (value_at w at i)) → find key (slots w at (suc n)) ≡ some (value_at w at i)
    by true d ih = let m = ltb-true i n d in find_past w at (suc n) n key refl (h n (omega arith) (omega arith)) ∙ ih m
    by false d ih =
        let a : n ≡ i = omega (arith, ltb-false i n d) in
        subst (λ (k : ℕ). find key (slots w at (suc n)) ≡ some (value_at w at k)) a
        (find_here w at (suc n) n key refl (subst (λ (k : ℕ). key_at w at k ≡ key) (sym a) e))

find_nowhere : (w : List ℕ) (at key n : ℕ) → PassedBy w at key 0 n → find key (slots w at n) ≡ none
find_nowhere w at key zero h = find_none w at zero key refl
find_nowhere w at key (suc n) h =
    find_past w at (suc n) n key refl (h n (omega arith) (omega arith)) ∙ find_nowhere w at key n (λ j l u. h j l (omega arith))

-- it is what the newest cell of that birth holds
pub sought_some : {w : List ℕ} {n birth i : ℕ} → Rising w n → Sought w n birth (Some i)
    → find birth (slots w CELLS_AT n) ≡ some (value_at w CELLS_AT i)
sought_some {w} {n} {birth} {i} r h = find_at w CELLS_AT birth i n h.found.0 h.found.1 (passed_above r h)

-- there is none
pub sought_none : {w : List ℕ} {n birth : ℕ} → Sought w n birth None → find birth (slots w CELLS_AT n) ≡ none
sought_none {w} {n} {birth} h = find_nowhere w CELLS_AT birth n (λ j l v. h.found j v)
