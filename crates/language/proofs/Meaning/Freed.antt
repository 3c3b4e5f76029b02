-- A birth number that is not live is never live again (S062), and at the end of a Block none is live that was born in it (S061).
use mathlib.Core.Path.{◌≡◌, refl, sym, subst}
use mathlib.Core.Bool.{Bool, true, false, cond}
use mathlib.Core.Option.{Option, none, some}
use Prim.Native.Nat.{ℕ, zero, suc, ◌≤◌, ◌<◌}
use native.Mathlib.Omega.{arith}
use lib.Dec.{eqb, leb}
use borrow.Author.Tests.{leb-true, ne_eqb}
use Rattle.language.specs.Sizes.{CELLS, BYTE}
use Rattle.language.specs.Trees.{Exp, block, Scope}
use Rattle.language.specs.State.{Value, Cells, no_cell, live, count, held, store, keep, State, with_units}
use Rattle.language.specs.State.{with_cells, with_birth, with_byte, Outcome, value, stop, stuck, then}
use Rattle.language.specs.Meaning.{Env, charge, begin, Fun, step, eval}
use Rattle.language.proofs.Meaning.CellTypes.{none_some}
use Rattle.language.proofs.Meaning.Keeping.{Keeps, Closed, keeps_any}

-- ---- what a run can make of a state

pub data Later (s : State) : State → Type 0 where
  now : Later s s
  unit_used : {t : State} {u : ℕ} → Later s t → t.units ≡ suc u → Later s (with_units u t)
  cell_born : {t : State} {v : Value} → Later s t → count t.cells < CELLS → Later s (with_birth v t)
  cell_written : {t : State} (b : ℕ) (v : Value) → Later s t → Later s (with_cells (store b v t.cells) t)
  cells_freed : {t : State} (b : ℕ) → Later s t → Later s (with_cells (keep b t.cells) t)
  byte_printed : {t : State} {r n : ℕ} → Later s t → t.room ≡ suc r → n ≤ BYTE → Later s (with_byte n r t)

later_closed : (s : State) → Closed (Later s)
later_closed s = record {
  use_unit = λ t u e h. unit_used h e;
  bear = λ t v k h. cell_born h k;
  write = λ t b v h. cell_written b v h;
  free = λ t b h. cells_freed b h;
  print = λ t r n e k h. byte_printed h e k;
}

-- whatever a node does from s on, it ends or stops in a later state
pub ends_later : (fs : Scope Fun) (d : ℕ) (e : Exp) (env : Env) (s : State) → Keeps (Later s) (λ _. Unit {0}) (eval fs d e env s)
ends_later fs d e env s = keeps_any (Later s) (later_closed s) fs d e env s now

-- ---- a number that was given and is not live

pub record Gone (b : ℕ) (s : State) : Type 0 where
  pub born : b ≤ s.births
  pub freed : held b s.cells ≡ none

-- looked for and not found: here it is not, nor further on
module _ (v : Value) (o : Option Value) where
  not_here : (t : Bool) → cond t (some v) o ≡ none → t ≡ false
  not_here true e = absurd (none_some (sym e))
  not_here false e = refl

  not_on : (t : Bool) → cond t (some v) o ≡ none → o ≡ none
  not_on true e = absurd (none_some (sym e))
  not_on false e = e

module _ (b : ℕ) where
  past : (c : ℕ) (v : Value) (cs : Cells) → eqb b c ≡ false → held b cs ≡ none → held b (live c v cs) ≡ none
  unfolding held
  past c v cs e h = rw e h

  unwritten : (c : ℕ) (w : Value) (cs : Cells) → held b cs ≡ none → held b (store c w cs) ≡ none
  unfolding held store
  unwritten c w no_cell h = h
  unwritten c w (live a v cs) h = go (eqb c a) (unwritten c w cs (not_on _ _ (eqb b a) h))
    where
      go : (t : Bool) → held b (store c w cs) ≡ none → held b (cond t (live a w cs) (live a v (store c w cs))) ≡ none
      go true r = past a w cs (not_here _ _ (eqb b a) h) (not_on _ _ (eqb b a) h)
      go false r = past a v (store c w cs) (not_here _ _ (eqb b a) h) r

  unkept : (n : ℕ) (cs : Cells) → held b cs ≡ none → held b (keep n cs) ≡ none
  unfolding held keep
  unkept n no_cell h = h
  unkept n (live a v cs) h = go (leb a n) (unkept n cs (not_on _ _ (eqb b a) h))
    where
      go : (t : Bool) → held b (keep n cs) ≡ none → held b (cond t (live a v (keep n cs)) (keep n cs)) ≡ none
      go true r = past a v (keep n cs) (not_here _ _ (eqb b a) h) r
      go false r = r

  -- those born after n do not stay
  rid : (n : ℕ) (cs : Cells) → n < b → held b (keep n cs) ≡ none
  unfolding held keep
  rid n no_cell h = refl
  rid n (live a v cs) h = go (leb a n) refl (rid n cs h)
    where
      go : (t : Bool) → leb a n ≡ t → held b (keep n cs) ≡ none → held b (cond t (live a v (keep n cs)) (keep n cs)) ≡ none
      go true e r = past a v (keep n cs) (ne_eqb b a λ d. omega (arith, leb-true a n e)) r
      go false e r = r

  -- once gone, gone in every later state
  pub never_live_again : {s t : State} → Later s t → Gone b s → Gone b t
  never_live_again now g = g
  never_live_again (unit_used l e) g = let h = never_live_again l g in record { born = h.born; freed = h.freed }
  never_live_again (cell_born {t} {v} l k) g =
      let h = never_live_again l g in
      record {
        born = omega (arith, h.born);
        freed = past (suc t.births) v t.cells (ne_eqb b (suc t.births) λ e. omega (arith, h.born)) h.freed;
      }
  never_live_again (cell_written {t} c v l) g =
      let h = never_live_again l g in record { born = h.born; freed = unwritten c v t.cells h.freed }
  never_live_again (cells_freed {t} n l) g =
      let h = never_live_again l g in record { born = h.born; freed = unkept n t.cells h.freed }
  never_live_again (byte_printed l e k) g = let h = never_live_again l g in record { born = h.born; freed = h.freed }

-- ---- a Block

abbrev Rid : ℕ → Outcome → Type 0
Rid n (value v s) = (b : ℕ) → n < b → held b s.cells ≡ none
Rid n (stop w i s) = Unit {0}
Rid n stuck = Unit {0}

rid_then : (n : ℕ) (o : Outcome) → Rid n (then o λ v t. value v (with_cells (keep n t.cells) t))
unfolding then
rid_then n (value v s) = λ b h. rid b n s.cells h
rid_then n (stop w i s) = tt
rid_then n stuck = tt

rid_charge : (u i : ℕ) (s : State) (k : State → Outcome) → ((u : ℕ) → Rid s.births (k (with_units u s))) → Rid s.births (charge u i s k)
unfolding charge
rid_charge zero i s k h = tt
rid_charge (suc u) i s k h = h u

rid_block : (fs : Scope Fun) (d i : ℕ) (e : Exp) (env : Env) (s : State) → Rid s.births (eval fs d (block i e) env s)
unfolding eval begin step
rid_block fs zero i e env s = rid_charge s.units _ s _ λ u. tt
rid_block fs (suc d) i e env s = rid_charge s.units _ s _ λ u. rid_then s.births _

-- at its end nothing is live that was born since it began
pub block_frees : (fs : Scope Fun) (d i : ℕ) (e : Exp) (env : Env) (s : State) {v : Value} {t : State}
    → eval fs d (block i e) env s ≡ value v t → (b : ℕ) → s.births < b → held b t.cells ≡ none
block_frees fs d i e env s q = subst (Rid s.births) q (rid_block fs d i e env s)
