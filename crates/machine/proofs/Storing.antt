-- The newest slot of a key is written: what the cells are then.
use mathlib.Core.Path.{◌≡◌, refl, sym, ap, subst, ◌∙◌}
use mathlib.Core.Bool.{Bool, true, false}
use mathlib.Core.List.{List}
use mathlib.Core.Option.{Option, none, some}
use Prim.Native.Nat.{ℕ, zero, suc, ◌+◌, ◌*◌, ◌/◌, ◌<◌, ◌≤◌}
use native.Mathlib.Omega.{arith}
use lib.ListN.{length, get_or}
use lib.Dec.{eqb, ltb}
use borrow.Author.Tests.{eq-eqb, ne_eqb, ltb-true, ltb-false, eqb-true, eqb-false}
use Rattle.language.specs.State.{Cells, live, held, store}
use Rattle.layout.specs.Slots.{TAGS, key_at, value_at, put_slot}
use Rattle.layout.specs.Values.{meant, Survives}
use Rattle.layout.specs.declared.values.Value.{Value}
use Rattle.machine.specs.Slots.{slots, cells_of}
use Rattle.machine.proofs.Slotted.{put_other, put_key, slots_put}

abbrev pub hit : {A : Type 0} → Option A → Bool
hit none = false
hit (some a) = true

-- v is written into the newest slot of that key, if there is one
pub record Stored (w w' : List ℕ) (at n key : ℕ) (v : Value) (r : Bool) : Type 0 where
  pub other : (i : ℕ) → (at ≤ i → i < at + 3 * n → ⊥) → get_or w' i 0 ≡ get_or w i 0
  pub keys : (i : ℕ) → i < n → key_at w' at i ≡ key_at w at i
  pub hit : r ≡ hit (held key (cells_of (slots w at n)))
  pub now : cells_of (slots w' at n) ≡ store key (meant v) (cells_of (slots w at n))

-- none of the slots from i up to n has the key
abbrev pub PassedBy : List ℕ → ℕ → ℕ → ℕ → ℕ → Type 0
PassedBy w at key i n = (j : ℕ) → i ≤ j → j < n → key_at w at j ≡ key → ⊥

module _ (w : List ℕ) (at key : ℕ) (v : Value) where
  none_store : (n : ℕ) → PassedBy w at key 0 n → cells_of (slots w at n) ≡ store key (meant v) (cells_of (slots w at n))
  unfolding slots cells_of store
  none_store zero h = refl
  none_store (suc n) h =
      rw (ne_eqb key (key_at w at n) (λ q. h n (omega arith) (omega arith) (sym q)))
      (ap (λ (l : Cells). live (key_at w at n) (value_at w at n) l) (none_store n (λ j l u. h j l (omega arith))))

  none_held : (n : ℕ) → PassedBy w at key 0 n → hit (held key (cells_of (slots w at n))) ≡ false
  unfolding slots cells_of held
  none_held zero h = refl
  none_held (suc n) h =
      rw (ne_eqb key (key_at w at n) (λ q. h n (omega arith) (omega arith) (sym q))) (none_held n (λ j l u. h j l (omega arith)))

  -- no slot has it
  pub store_none : (n i : ℕ) → i ≤ 0 → PassedBy w at key i n → Stored w w at n key v false
  store_none n i e h =
      let p : PassedBy w at key 0 n = λ j l u. h j (omega arith) u in
      record { other = λ x o. refl; keys = λ x l. refl; hit = sym (none_held n p); now = none_store n p }

  module _ (j : ℕ) (e : key_at w at j ≡ key) (back : Survives v) where
    abbrev Hit : ℕ → Type 0
    Hit n =
        (cells_of (slots (put_slot w at j key v) at n) ≡ store key (meant v) (cells_of (slots w at n)))
        × (hit (held key (cells_of (slots w at n))) ≡ true)

    last_hit : (n : ℕ) → j ≡ n → at + 3 * n + 3 ≤ length w → Hit (suc n)
    unfolding slots cells_of store held
    last_hit n d room =
        let q : key ≡ key_at w at n = sym (subst (λ (m : ℕ). key_at w at m ≡ key) d e) in (
          subst (λ (m : ℕ). cells_of (slots (put_slot w at m key v) at (suc n)) ≡ store key (meant v) (cells_of (slots w at (suc n)))) (sym d)
              (ap cells_of (slots_put w at n key v room back) ∙ rw (eq-eqb key (key_at w at n) q, ← q) refl),
          rw (eq-eqb key (key_at w at n) q) refl,
        )

    above : (n : ℕ) → j < n → Hit n → (key_at w at n ≡ key → ⊥) → Hit (suc n)
    unfolding slots cells_of store held
    above n m r d =
        let e0 = put_other w at j key v (at + 3 * n) (λ p q. omega arith) in
        let e1 = put_other w at j key v (at + 3 * n + 1) (λ p q. omega arith) in
        let e2 = put_other w at j key v (at + 3 * n + 2) (λ p q. omega arith) in
        let t = ne_eqb key (key_at w at n) (λ q. d (sym q)) in
        (rw (e0, e1, e2, t) (ap (λ (l : Cells). live (key_at w at n) (value_at w at n) l) r.0), rw t r.1)

    hits : (n : ℕ) → j < n → at + 3 * n ≤ length w → PassedBy w at key (j + 1) n → Hit n
    hits zero l room h = absurd (omega arith)
    hits (suc n) l room h = by (ltb j n) refl (λ m. hits n m (omega arith) (λ i a c. h i a (omega arith)))
      where
        by : (t : Bool) → ltb j n ≡ t → (j < n → Hit n) → Hit (suc n)
        by true d ih = let m = ltb-true j n d in above n m (ih m) (h n (omega arith) (omega arith))
        by false d ih = let m = ltb-false j n d in last_hit n (omega arith) (omega arith)

    -- slot j has it, and none above
    pub store_hit : (n : ℕ) → j < n → at + 3 * n ≤ length w → PassedBy w at key (j + 1) n → (w1 : List ℕ) → w1 ≡ put_slot w at j key v
        → Stored w w1 at n key v true
    store_hit n l room h w1 d =
        let r = hits n l room h in
        record {
          other = λ i o. ap (λ (z : List ℕ). get_or z i 0) d ∙ put_other w at j key v i (λ p q. o (omega arith) (omega arith));
          keys = keys;
          hit = sym r.1;
          now = ap (λ (z : List ℕ). cells_of (slots z at n)) d ∙ r.0;
        }
      where
        keys : (i : ℕ) → i < n → key_at w1 at i ≡ key_at w at i
        keys i u = by (eqb i j) refl
          where
            by : (t : Bool) → eqb i j ≡ t → key_at w1 at i ≡ key_at w at i
            by true q =
                let a = eqb-true i j q in
                ap (λ (z : List ℕ). key_at z at i) d
                ∙ subst (λ (m : ℕ). key_at (put_slot w at j key v) at m ≡ key_at w at m) (sym a) (put_key w at j key v (omega arith) ∙ sym e)
            by false q =
                let a = eqb-false i j q in
                ap (λ (z : List ℕ). key_at z at i) d ∙ ap (λ (k : ℕ). k / TAGS) (put_other w at j key v (at + 3 * i) (λ p r. a (omega arith)))
