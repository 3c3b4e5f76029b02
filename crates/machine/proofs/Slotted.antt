-- Slots in words: looked through, written, and left alone by a change elsewhere.
use mathlib.Core.Path.{◌≡◌, refl, sym, ap, subst, ◌∙◌}
use mathlib.Core.Bool.{cond}
use mathlib.Core.List.{List, [], ◌∷◌}
use mathlib.Core.Option.{Option, none, some}
use Prim.Native.Nat.{ℕ, zero, suc, ◌+◌, ◌-◌, ◌*◌, ◌/◌, ◌%◌, ◌<◌, ◌≤◌}
use native.Mathlib.Omega.{arith}
use lib.ListN.{length, get_or, set, length-set}
use lib.Seq.{get_or-set_same, get_or-set_other}
use lib.Dec.{eqb}
use borrow.Author.Tests.{eq-eqb, ne_eqb, le-leb, lt-leb}
use Rattle.language.specs.State.{Value, live, count, held, keep}
use Rattle.layout.specs.Slots.{TAGS, key_at, value_at, put_slot}
use Rattle.layout.specs.Values.{meant, tag_of, low_of, high_of, Survives}
use Rattle.layout.specs.declared.values.Value as Code
use Rattle.layout.proofs.Packed.{tag_small, packed_key, packed_tag}
use Rattle.machine.specs.Slots.{Slot, slots, values_from, find, cells_of, Same}

-- ---- looked through, from the newest on

module _ (w : List ℕ) (at i j key : ℕ) (e : i ≡ suc j) where
  -- the newest has the key
  pub find_here : key_at w at j ≡ key → find key (slots w at i) ≡ some (value_at w at j)
  unfolding find slots
  find_here h = rw e (rw (eq-eqb key (key_at w at j) (sym h)) refl)

  -- it has another
  pub find_past : (key_at w at j ≡ key → ⊥) → find key (slots w at i) ≡ find key (slots w at j)
  unfolding find slots
  find_past h = rw e (rw (ne_eqb key (key_at w at j) (λ q. h (sym q))) refl)

-- there is none
pub find_none : (w : List ℕ) (at i key : ℕ) → i ≡ 0 → find key (slots w at i) ≡ none
unfolding find slots
find_none w at i key e = rw e refl

-- ---- words that are the same stand for the same

-- slots
pub slots_same : (v w : List ℕ) (at n : ℕ) → Same v w at (at + 3 * n) → slots v at n ≡ slots w at n
unfolding slots
slots_same v w at zero h = refl
slots_same v w at (suc n) h =
    let e0 : get_or v (at + 3 * n) 0 ≡ get_or w (at + 3 * n) 0 = h (at + 3 * n) (omega arith) (omega arith) in
    let e1 : get_or v (at + 3 * n + 1) 0 ≡ get_or w (at + 3 * n + 1) 0 = h (at + 3 * n + 1) (omega arith) (omega arith) in
    let e2 : get_or v (at + 3 * n + 2) 0 ≡ get_or w (at + 3 * n + 2) 0 = h (at + 3 * n + 2) (omega arith) (omega arith) in
    let r : slots v at n ≡ slots w at n = slots_same v w at n (λ k l u. h k l (omega arith)) in
    rw (e0, e1, e2, r) refl

-- one of them
pub value_same : (v w : List ℕ) (at i : ℕ) → Same v w (at + 3 * i) (at + 3 * i + 3) → value_at v at i ≡ value_at w at i
value_same v w at i h =
    let e0 : get_or v (at + 3 * i) 0 ≡ get_or w (at + 3 * i) 0 = h (at + 3 * i) (omega arith) (omega arith) in
    let e1 : get_or v (at + 3 * i + 1) 0 ≡ get_or w (at + 3 * i + 1) 0 = h (at + 3 * i + 1) (omega arith) (omega arith) in
    let e2 : get_or v (at + 3 * i + 2) 0 ≡ get_or w (at + 3 * i + 2) 0 = h (at + 3 * i + 2) (omega arith) (omega arith) in
    rw (e0, e1, e2) refl

-- what they hold
pub values_same : (v w : List ℕ) (at k n : ℕ) → Same v w (at + 3 * k) (at + 3 * (k + n)) → values_from v at k n ≡ values_from w at k n
unfolding values_from
values_same v w at k zero h = refl
values_same v w at k (suc n) h =
    let e : value_at v at k ≡ value_at w at k = value_same v w at k (λ j l u. h j l (omega arith)) in
    let r : values_from v at (k + 1) n ≡ values_from w at (k + 1) n =
    values_same v w at (k + 1) n (λ j l u. h j (omega arith) (omega arith)) in
    rw (e, r) refl

-- ---- a slot that is written

-- memory stays as long
pub put_length : (w : List ℕ) (at i key : ℕ) (v : Code.Value) → length (put_slot w at i key v) ≡ length w
unfolding put_slot
put_length w at i key v = simp length-set refl

-- the words of other slots stay
pub put_other : (w : List ℕ) (at i key : ℕ) (v : Code.Value) (k : ℕ) → (at + 3 * i ≤ k → k < at + 3 * i + 3 → ⊥)
    → get_or (put_slot w at i key v) k 0 ≡ get_or w k 0
unfolding put_slot
put_other w at i key v k h =
    let one = set w (at + 3 * i) (TAGS * key + tag_of v) in
    let two = set one (at + 3 * i + 1) (low_of v) in
    get_or-set_other two (at + 3 * i + 2) k (high_of v) 0 (λ e. h (omega arith) (omega arith))
    ∙ get_or-set_other one (at + 3 * i + 1) k (low_of v) 0 (λ e. h (omega arith) (omega arith))
    ∙ get_or-set_other w (at + 3 * i) k (TAGS * key + tag_of v) 0 (λ e. h (omega arith) (omega arith))

module _ (w : List ℕ) (at i key : ℕ) (v : Code.Value) (room : at + 3 * i + 3 ≤ length w) where
  abbrev one : List ℕ
  one = set w (at + 3 * i) (TAGS * key + tag_of v)

  abbrev two : List ℕ
  two = set one (at + 3 * i + 1) (low_of v)

  put_head : get_or (put_slot w at i key v) (at + 3 * i) 0 ≡ TAGS * key + tag_of v
  unfolding put_slot
  put_head =
      get_or-set_other two (at + 3 * i + 2) (at + 3 * i) (high_of v) 0 (λ e. omega arith)
      ∙ get_or-set_other one (at + 3 * i + 1) (at + 3 * i) (low_of v) 0 (λ e. omega arith)
      ∙ get_or-set_same w (at + 3 * i) (TAGS * key + tag_of v) 0 (omega arith)

  put_low : get_or (put_slot w at i key v) (at + 3 * i + 1) 0 ≡ low_of v
  unfolding put_slot
  put_low =
      get_or-set_other two (at + 3 * i + 2) (at + 3 * i + 1) (high_of v) 0 (λ e. omega arith)
      ∙ get_or-set_same one (at + 3 * i + 1) (low_of v) 0 (simp length-set (omega arith))

  put_high : get_or (put_slot w at i key v) (at + 3 * i + 2) 0 ≡ high_of v
  unfolding put_slot
  put_high = get_or-set_same two (at + 3 * i + 2) (high_of v) 0 (simp length-set (omega arith))

  -- its key
  pub put_key : key_at (put_slot w at i key v) at i ≡ key
  put_key = ap (λ (n : ℕ). n / TAGS) put_head ∙ packed_key key (tag_of v) (tag_small v)

  put_tag : get_or (put_slot w at i key v) (at + 3 * i) 0 % TAGS ≡ tag_of v
  put_tag = ap (λ (n : ℕ). n % TAGS) put_head ∙ packed_tag key (tag_of v) (tag_small v)

  -- what it holds
  pub put_value : Survives v → value_at (put_slot w at i key v) at i ≡ meant v
  put_value h = rw (put_tag, put_low, put_high) h

-- one slot more
pub slots_put : (w : List ℕ) (at n key : ℕ) (v : Code.Value) → at + 3 * n + 3 ≤ length w → Survives v
    → slots (put_slot w at n key v) at (suc n) ≡ record { key = key; holds = meant v } ∷ slots w at n
unfolding slots
slots_put w at n key v room h =
    let e0 = put_key w at n key v room in
    let e1 = put_value w at n key v room h in
    let r : slots (put_slot w at n key v) at n ≡ slots w at n =
    slots_same (put_slot w at n key v) w at n (λ i l u. put_other w at n key v i (λ p q. omega arith)) in
    rw (e0, e1, r) refl

-- ---- cells

-- a cell is looked up as a slot is
pub held_slots : (b : ℕ) (ss : List Slot) → held b (cells_of ss) ≡ find b ss
unfolding held cells_of find
held_slots b [] = refl
held_slots b (s ∷ ss) = ap (λ (x : Option Value). cond (eqb b s.key) (some s.holds) x) (held_slots b ss)

-- as many cells as slots
pub count_slots : (w : List ℕ) (at n : ℕ) → count (cells_of (slots w at n)) ≡ n
unfolding count cells_of slots
count_slots w at zero = refl
count_slots w at (suc n) = ap suc (count_slots w at n)

keep_all : (w : List ℕ) (at b n : ℕ) → ((i : ℕ) → i < n → key_at w at i ≤ b) → keep b (cells_of (slots w at n)) ≡ cells_of (slots w at n)
unfolding keep cells_of slots
keep_all w at b zero h = refl
keep_all w at b (suc n) h =
    rw (le-leb (key_at w at n) b (h n (omega arith)))
    (ap (live (key_at w at n) (value_at w at n)) (keep_all w at b n (λ i l. h i (omega arith))))

keep_more : (w : List ℕ) (at b n m : ℕ) → ((i : ℕ) → i < n → key_at w at i ≤ b) → ((i : ℕ) → n ≤ i → i < n + m → b < key_at w at i)
    → keep b (cells_of (slots w at (n + m))) ≡ cells_of (slots w at n)
unfolding keep cells_of slots
keep_more w at b n zero h k = let e : n + 0 ≡ n = omega arith in rw e (keep_all w at b n h)
keep_more w at b n (suc m) h k =
    let e : n + suc m ≡ suc (n + m) = omega arith in
    rw (e, lt-leb (key_at w at (n + m)) b (k (n + m) (omega arith) (omega arith))) (keep_more w at b n m h (λ i l u. k i l (omega arith)))

-- where the first n of m cells were born up to b and the others later, those born up to b are the first n
pub keep_slots : (w : List ℕ) (at b n m : ℕ) → n ≤ m → ((i : ℕ) → i < n → key_at w at i ≤ b)
    → ((i : ℕ) → n ≤ i → i < m → b < key_at w at i) → keep b (cells_of (slots w at m)) ≡ cells_of (slots w at n)
keep_slots w at b n m le h k =
    let e : n + (m - n) ≡ m = omega arith in
    subst (λ (x : ℕ). keep b (cells_of (slots w at x)) ≡ cells_of (slots w at n)) e
    (keep_more w at b n (m - n) h (λ i l u. k i l (omega arith)))
