-- Cells read, born and written: the words do what the meaning does.
use mathlib.Core.Path.{◌≡◌, refl, sym, ap, subst, ◌∙◌}
use mathlib.Core.Bool.{Bool, true, false, cond}
use mathlib.Core.List.{List, ◌∷◌}
use mathlib.Core.Option.{Option, none, some}
use Prim.Native.Nat.{ℕ, suc, ◌+◌, ◌*◌, ◌/◌, ◌<◌, ◌≤◌}
use native.Mathlib.Omega.{arith}
use native.Mathlib.Numerals.{add-one}
use lib.ListN.{length, get_or}
use lib.Dec.{T, eqb, ltb}
use borrow.Author.Tests.{lt-ltb, le-ltb, ltb-true, ltb-false}
use Rattle.language.specs.Sizes.{CELLS}
use Rattle.language.specs.Trees.{new, fetch, assign}
use Rattle.language.specs.State as M
use Rattle.language.specs.State.{nothing, cell, Cells, no_cell, live, held, store, value, stop, cell_freed, cells_full, choose, when_some, with_cells}
use Rattle.language.specs.Meaning.{create, apply_unary, apply_binary}
use Rattle.layout.specs.Slots.{TAGS, key_at, value_at, put_slot}
use Rattle.layout.specs.Frames.{CELLS_AT}
use Rattle.layout.specs.Values.{meant, Survives}
use Rattle.layout.specs.declared.values.Value.{Value}
use Rattle.layout.specs.declared.values.Value.TheVariants.{Nothing, Cell}
use Rattle.machine.specs.Slots.{slots, cells_of, Rising, Sought}
use Rattle.machine.specs.Outcomes.{Tells, memory, told, Room, Kept, Means, Applied, born, Created}
use Rattle.numbers.specs.declared.Stop.{Stop}
use Rattle.machine.specs.declared.state.Tally.{Tally}
use Rattle.machine.specs.Outcomes.{Outcome}
use Rattle.std.specs.Prelude.{Some, None, Ok, Err}
use Rattle.machine.proofs.Telling.{tells_same, tells_by}
use Rattle.machine.proofs.Slotted.{put_other, put_length, put_key, slots_put, held_slots, count_slots}
use Rattle.machine.proofs.Keeping.{kept_self, rising_same}
use Rattle.machine.proofs.Seeking.{passed_above, sought_some, sought_none}
use Rattle.machine.proofs.Storing.{hit, Stored, store_hit, store_none}

-- work memory could be changed, and is as it was
pub applied_still : (m : Means) {w : List ℕ} {s : Tally} (r : Outcome) → Room w s
    → ((i : ℕ) (o : List ℕ) → Tells (told i (memory w o s) r) (m i (memory w o s))) → Applied m w w s r
applied_still m {w} {s} r room h = record { kept = kept_self w s; room = room; right = h }

-- ---- a cell read

module _ (n : ℕ) (w : List ℕ) (s : Tally) (i : ℕ) (o : List ℕ) where
  -- it is live
  pub fetched : {j : ℕ} → Room w s → Sought w s.cells n (Some j) → (v : Value) → meant v ≡ value_at w CELLS_AT j
      → told i (memory w o s) (Ok v) ≡ apply_unary i fetch (cell n) (memory w o s)
  unfolding apply_unary when_some
  fetched room h v e =
      let q : held n (cells_of (slots w CELLS_AT s.cells)) ≡ some (meant v) =
      held_slots n (slots w CELLS_AT s.cells) ∙ sought_some room.rising h ∙ ap some (sym e) in
      rw q refl

  -- it is freed
  pub unfetched : Sought w s.cells n None → told i (memory w o s) (Err Stop.CellFreed) ≡ apply_unary i fetch (cell n) (memory w o s)
  unfolding apply_unary when_some
  unfetched h =
      let q : held n (cells_of (slots w CELLS_AT s.cells)) ≡ none = held_slots n (slots w CELLS_AT s.cells) ∙ sought_none h in
      rw q refl

-- ---- a cell born

module _ {w : List ℕ} {s : Tally} (v : Value) (room : Room w s) where
  full_right : CELLS ≤ s.cells → (i : ℕ) (o : List ℕ) → Tells (stop cells_full i (memory w o s)) (apply_unary i new (meant v) (memory w o s))
  unfolding apply_unary create choose
  full_right h i o = tells_same (rw (count_slots w CELLS_AT s.cells, le-ltb s.cells CELLS h) refl)

  -- too many are live
  pub create_full : CELLS ≤ s.cells → Created (meant v) w w s (Err Stop.CellsFull)
  create_full h = record { kept = kept_self w s; room = room; right = full_right h }

  module _ (h : s.cells < CELLS) (back : Survives v) (w1 : List ℕ) (ew : w1 ≡ put_slot w CELLS_AT s.cells (s.births + 1) v) where
    inside : CELLS_AT + 3 * s.cells + 3 ≤ length w
    inside = omega (arith, room.long)

    other : (i : ℕ) → (CELLS_AT + 3 * s.cells ≤ i → i < CELLS_AT + 3 * s.cells + 3 → ⊥) → get_or w1 i 0 ≡ get_or w i 0
    other i g = ap (λ (x : List ℕ). get_or x i 0) ew ∙ put_other w CELLS_AT s.cells (s.births + 1) v i g

    same : (k : ℕ) → k < s.cells → key_at w1 CELLS_AT k ≡ key_at w CELLS_AT k
    same k a = ap (λ (x : ℕ). x / TAGS) (other (CELLS_AT + 3 * k) (λ b c. omega arith))

    newest : key_at w1 CELLS_AT s.cells ≡ s.births + 1
    newest = ap (λ (x : List ℕ). key_at x CELLS_AT s.cells) ew ∙ put_key w CELLS_AT s.cells (s.births + 1) v inside

    newer : (i : ℕ) → s.cells ≤ i → i < s.cells + 1 → s.births < key_at w1 CELLS_AT i
    newer i lo hi =
        let e : s.cells ≡ i = omega arith in
        subst (λ (j : ℕ). s.births < key_at w1 CELLS_AT j) e (omega (arith, newest))

    low : (i : ℕ) → i < s.cells + 1 → key_at w1 CELLS_AT i ≤ s.births + 1
    low i u = by (ltb i s.cells) refl
      where
        by : (x : Bool) → ltb i s.cells ≡ x → key_at w1 CELLS_AT i ≤ s.births + 1
        by true e = let a = ltb-true i s.cells e in omega (arith, same i a, room.low i a)
        by false e =
            let a = ltb-false i s.cells e in
            let q : s.cells ≡ i = omega arith in
            subst (λ (j : ℕ). key_at w1 CELLS_AT j ≤ s.births + 1) q (omega (arith, newest))

    rising : Rising w1 (s.cells + 1)
    rising i j l u = by (ltb j s.cells) refl
      where
        by : (x : Bool) → ltb j s.cells ≡ x → key_at w1 CELLS_AT i < key_at w1 CELLS_AT j
        by true e = let a = ltb-true j s.cells e in omega (arith, same i (omega arith), same j a, room.rising i j l a)
        by false e =
            let a = ltb-false j s.cells e in
            omega (arith, same i (omega arith), room.low i (omega arith), newer j a u)

    cells_are : cells_of (slots w1 CELLS_AT (s.cells + 1)) ≡ live (suc s.births) (meant v) (cells_of (slots w CELLS_AT s.cells))
    unfolding cells_of
    cells_are =
        let a : slots w1 CELLS_AT (suc s.cells) ≡ record { key = s.births + 1; holds = meant v } ∷ slots w CELLS_AT s.cells =
        ap (λ (x : List ℕ). slots x CELLS_AT (suc s.cells)) ew ∙ slots_put w CELLS_AT s.cells (s.births + 1) v inside back in
        rw (add-one s.cells, a, add-one s.births) refl

    made_right : (i : ℕ) (o : List ℕ) → Tells (value (cell (s.births + 1)) (memory w1 o (born s))) (apply_unary i new (meant v) (memory w o s))
    unfolding apply_unary create choose
    made_right i o = tells_same (rw (count_slots w CELLS_AT s.cells, lt-ltb s.cells CELLS h, cells_are, add-one s.births) refl)

    length_is : length w1 ≡ length w
    length_is = ap (λ (x : List ℕ). length x) ew ∙ put_length w CELLS_AT s.cells (s.births + 1) v

    -- it is born
    pub create_made : Created (meant v) w w1 s (Ok (Cell (s.births + 1)))
    create_made = record {
      kept = record {
        below = λ i l u. other i (λ a b. omega arith);
        beyond = λ i u. other i (λ a b. omega arith);
        long = length_is;
        above = omega arith;
        older = omega arith;
        keys = same;
        newer = newer;
      };
      room = record { long = omega (arith, room.long, length_is); few = omega arith; low = low; rising = rising };
      right = made_right;
    }

-- ---- a cell written

store_miss : (b : ℕ) (x : M.Value) (cs : Cells) → hit (held b cs) ≡ false → store b x cs ≡ cs
unfolding store held
store_miss b x no_cell h = refl
store_miss b x (live c v cs) h = by (eqb b c) refl (λ q. store_miss b x cs q)
  where
    by : (t : Bool) → eqb b c ≡ t → (hit (held b cs) ≡ false → store b x cs ≡ cs)
        → cond (eqb b c) (live c x cs) (live c v (store b x cs)) ≡ live c v cs
    by true e ih = let q : hit (some v) ≡ false = rw e at h in absurd (subst T q tt)
    by false e ih = let q : hit (held b cs) ≡ false = rw e at h in rw (e, ih q) refl

found_by : (h : Option M.Value) → hit h ≡ true → (x y : M.Outcome) → when_some h (λ _. x) (λ _. y) ≡ x
unfolding when_some
found_by none e x y = absurd (subst T (sym e) tt)
found_by (some a) e x y = refl

lost_by : (h : Option M.Value) → hit h ≡ false → (x y : M.Outcome) → when_some h (λ _. x) (λ _. y) ≡ y
unfolding when_some
lost_by none e x y = refl
lost_by (some a) e x y = absurd (subst T e tt)

module _ (n : ℕ) {w w1 : List ℕ} {s : Tally} (v : Value) (room : Room w s) (long : length w1 ≡ length w) {r : Bool}
    (st : Stored w w1 CELLS_AT s.cells n v r) where
  stored_kept : Kept w w1 s s
  stored_kept = record {
    below = λ k l u. st.other k (λ a b. omega arith);
    beyond = λ k u. st.other k (λ a b. omega (arith, room.few));
    long = long;
    above = omega arith;
    older = omega arith;
    keys = st.keys;
    newer = λ k a b. absurd (omega arith);
  }

  stored_room : Room w1 s
  stored_room = record {
    long = omega (arith, room.long, long);
    few = room.few;
    low = λ k u. omega (arith, st.keys k u, room.low k u);
    rising = rising_same w w1 s.cells st.keys room.rising;
  }

  abbrev old : Cells
  old = cells_of (slots w CELLS_AT s.cells)

  assigned_right : r ≡ true → (i : ℕ) (o : List ℕ) → Tells (value nothing (memory w1 o s)) (apply_binary i assign (cell n) (meant v) (memory w o s))
  unfolding apply_binary when_some
  assigned_right e i o =
      tells_by (found_by (held n old) (sym st.hit ∙ e) _ _)
      (tells_same (ap (λ (cs : Cells). value nothing (with_cells cs (memory w o s))) st.now))

  -- it is live
  assigned : r ≡ true → Applied (λ i σ. apply_binary i assign (cell n) (meant v) σ) w w1 s (Ok Nothing)
  assigned e = record { kept = stored_kept; room = stored_room; right = assigned_right e }

  missed_right : r ≡ false → (i : ℕ) (o : List ℕ)
      → Tells (stop cell_freed i (memory w1 o s)) (apply_binary i assign (cell n) (meant v) (memory w o s))
  unfolding apply_binary when_some
  missed_right e i o =
      let h : hit (held n old) ≡ false = sym st.hit ∙ e in
      tells_by (lost_by (held n old) h _ _)
      (tells_same (ap (λ (cs : Cells). stop cell_freed i (with_cells cs (memory w o s))) (st.now ∙ store_miss n (meant v) old h)))

  -- it is freed
  missed : r ≡ false → Applied (λ i σ. apply_binary i assign (cell n) (meant v) σ) w w1 s (Err Stop.CellFreed)
  missed e = record { kept = stored_kept; room = stored_room; right = missed_right e }

-- the same of a cell that was sought
module _ (n : ℕ) {w : List ℕ} {s : Tally} (v : Value) (room : Room w s) where
  -- it is live
  pub assigned_at : {j : ℕ} → Sought w s.cells n (Some j) → Survives v → (w1 : List ℕ) → w1 ≡ put_slot w CELLS_AT j n v
      → Applied (λ i σ. apply_binary i assign (cell n) (meant v) σ) w w1 s (Ok Nothing)
  assigned_at {j} h back w1 e =
      let l = h.found.0 in
      assigned n v room (ap (λ (x : List ℕ). length x) e ∙ put_length w CELLS_AT j n v)
      (store_hit w CELLS_AT n v j h.found.1 back s.cells l (omega (arith, room.long, room.few)) (passed_above room.rising h) w1 e) refl

  -- it is freed
  pub missed_at : Sought w s.cells n None → Applied (λ i σ. apply_binary i assign (cell n) (meant v) σ) w w s (Err Stop.CellFreed)
  missed_at h = missed n v room refl (store_none w CELLS_AT n v s.cells 0 (omega arith) (λ k a u. h.found k u)) refl
