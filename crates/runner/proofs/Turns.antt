-- A number of a `for` is next: its body begins, if a pass for it is due; and when the pass is over the number behind it is next.
use Rattle.std.specs.Prelude as P
use mathlib.Core.Path.{◌≡◌, refl, sym, ap, subst, ◌∙◌}
use mathlib.Core.Bool.{Bool, true, false, cond}
use mathlib.Core.List.{List, ◌∷◌}
use mathlib.Core.Option.{none, some}
use Prim.Native.Nat.{ℕ, ◌+◌, ◌<◌}
use native.Mathlib.Omega.{arith}
use lib.Dec.{eqb}
use lib.IntN.{ℤ, ◌+ℤ◌}
use lib.ListN.{length}
use Rattle.language.specs.Sizes.{NODES}
use Rattle.language.specs.Tokens.{THROUGH}
use Rattle.language.specs.Trees.{push}
use Rattle.language.specs.State as M
use Rattle.language.specs.State.{number, nothing, value, then, as_int, as_unit, choose}
use Rattle.language.specs.Meaning.{in_range, due, eval}
use Rattle.language.proofs.Meaning.CellTypes.{none_some, some_one}
use Rattle.language.proofs.Meaning.Turns.{for_from, for_is}
use Rattle.layout.specs.Table.{KIND, SECOND, row_word, token_value}
use Rattle.layout.specs.Slots.{HELD, SLOTS, value_at}
use Rattle.layout.specs.Frames.{put_phase}
use Rattle.layout.specs.Values.{meant, Survives}
use Rattle.layout.specs.declared.values.Value.{Value}
use Rattle.layout.specs.declared.values.Value.TheVariants.{Nothing}
use Rattle.machine.specs.Operands.{OfInt, stepped, written}
use Rattle.machine.specs.Outcomes.{memory}
use Rattle.machine.specs.declared.state.Tally.{Tally}
use Rattle.runner.specs.Phases.{COUNTED}
use Rattle.runner.specs.Waiting.{Run, Then, Binds, binds_name, binds_held, which, passed, WaitsCounted, Waits}
use Rattle.runner.specs.Standing.{Begins, Gives, Resumes}
use Rattle.runner.specs.Loops.{Counting, put_bound}
use Rattle.runner.specs.declared.state.Spot.{Spot}
use Rattle.runner.proofs.Stacks.{then_then, binds_kept}
use Rattle.runner.proofs.RowKinds.{range_through}
use Rattle.runner.proofs.Entering.{spot}
use Rattle.runner.proofs.Giving.{waits_at, frame_low, back, part_enters}
use Rattle.runner.proofs.Controlling.{unit_whole}
use Rattle.runner.proofs.Bound.{bound_stored, bound_frame, bound_value, end_value, step_value}

-- ---- a pass, or the end

module _ {q : Run} {t w o : List ℕ} {node : ℕ} {z to by : Value} {p : Spot} {s : Tally} (c : Counting q t w o false node z to by p s) where
  abbrev σ : M.State
  σ = memory w o s

  abbrev B : ℕ
  B = p.base

  abbrev N : ℕ
  N = length c.frame.L

  abbrev H : ℕ
  H = p.height

  abbrev here : Bool
  here = due c.loop.through c.end c.step c.n

  abbrev after : Then
  after = passed q.fs c.frame.d c.loop.x c.loop.through c.end c.step c.loop.e c.frame.env c.n

  turn_means : then (choose here (λ _. then (eval q.fs c.frame.d c.loop.e (push c.loop.x (number c.n) c.frame.env) σ) after)
      λ _. value nothing σ) c.frame.κ ≡ q.whole
  turn_means =
      ap (λ (m : M.Outcome). then m c.frame.κ)
      (sym (for_is q.fs c.frame.d c.loop.x c.loop.through c.end c.step c.loop.e c.frame.env c.n σ)) ∙ c.means

  pub turn_row : node < NODES
  turn_row = c.loop.head.inside

  -- what the code finds of it
  pub turn_due : {kind : ℕ} → kind ≡ row_word t node KIND → {b : Bool}
      → OfInt (meant to) (λ x. OfInt (meant by) (λ y. OfInt (meant z) (λ n. b ≡ due (eqb kind THROUGH) x y n))) → b ≡ here
  turn_due k h =
      ((h.is c.end (ap as_int c.end_is)).is c.step (ap as_int c.step_is)).is c.n (ap as_int c.counter_is)
      ∙ ap (λ (u : Bool). due u c.end c.step c.n)
      (ap (λ (j : ℕ). eqb j THROUGH) (k ∙ c.loop.head.kind_is) ∙ range_through c.loop.through)

  -- none is due
  pub turn_over : here ≡ false → Gives q t w o Nothing p s
  unfolding choose then
  turn_over h = back c.frame (omega (arith, c.room)) Nothing (rw h at turn_means)

  -- ---- the body begins

  -- the number of its name
  abbrev K : ℕ
  K = token_value t (c.loop.i + 1)

  inside : B + N + 2 < SLOTS
  inside = omega (arith, c.room)

  pub turn_slots : B + p.size + 2 < SLOTS
  turn_slots = omega (arith, c.frame.sized, inside)

  module _ (back_z : Survives z) (back_to : Survives to) (back_by : Survives by) where
    abbrev W : List ℕ
    W = put_phase (put_bound w (B + N) z to by) H COUNTED

    sees : Binds q.ts W B (HELD ∷ HELD ∷ K ∷ c.frame.L) (push c.loop.x (number c.n) c.frame.env)
    sees =
        let low = frame_low c.frame in
        let long = c.frame.fair.room.long in
        binds_held (binds_held (binds_name c.loop.named.named
        (bound_value w (B + N) z to by H inside low long back_z ∙ c.counter_is)
        (binds_kept (bound_stored w (B + N) z to by H inside low long).slots (omega arith) c.frame.binds)))

    abbrev Passing : ℕ → Type 0
    Passing n = Begins q t (put_phase (put_bound w (B + n) z to by) H COUNTED) o (row_word t node SECOND) (spot B (n + 3) (H + 1)) s

    pass_begins : here ≡ true → Passing N
    unfolding Waits which choose
    pass_begins h =
        let low = frame_low c.frame in
        let long = c.frame.fair.room.long in
        part_enters c.frame (bound_stored w (B + N) z to by H inside low long) COUNTED c.frame.mark 3 (λ v s. then (after v s) c.frame.κ)
        (bound_frame w (B + N) z to by H inside low long c.frame.there)
        (record {
          loop = c.loop;
          to = c.end;
          by = c.step;
          z = c.n;
          room = c.room;
          used = refl;
          counter = bound_value w (B + N) z to by H inside low long back_z ∙ c.counter_is;
          end = end_value w (B + N) z to by H inside low long back_to ∙ c.end_is;
          step = step_value w (B + N) z to by H inside low long back_by ∙ c.step_is;
          goes = λ v s. refl;
        })
        B (N + 3) (omega arith) (omega arith) c.loop.at sees (omega (arith, c.room))
        (sym (then_then (eval q.fs c.frame.d c.loop.e (push c.loop.x (number c.n) c.frame.env) σ) after c.frame.κ)
        ∙ (rw h at turn_means))

    pub turn_passes : here ≡ true → Passing p.size
    turn_passes h = subst Passing (sym c.frame.sized) (pass_begins h)

-- ---- a pass is over

-- what the code finds behind the number
stepped_to : (b : Bool) {u v : M.Value} → some u ≡ cond b (some v) none → (b ≡ true) × (u ≡ v)
stepped_to true e = (refl, some_one e)
stepped_to false e = absurd (none_some (sym e))

stepped_past : (b : Bool) (v : M.Value) → none ≡ cond b (some v) none → b ≡ false
stepped_past true v e = absurd (none_some e)
stepped_past false v e = refl

module _ {q : Run} {t w o : List ℕ} {v : Value} {row : ℕ} {p : Spot} {s : Tally} (r : Resumes q t w o v row COUNTED p s) where
  waiting : WaitsCounted q t w r.d row p.base r.mark r.n r.b r.L r.env r.κ r.κ' r.u
  unfolding Waits which
  waiting = waits_at r COUNTED refl

  pub next_slots : p.base + p.size + 2 < SLOTS
  next_slots = omega (arith, r.sized, waiting.room)

  at_is : (i : ℕ) → p.base + p.size + i ≡ p.base + length r.L + i
  at_is i = ap (λ (n : ℕ). p.base + n + i) r.sized

  abbrev beyond : ℤ
  beyond = waiting.z +ℤ waiting.by

  next_means : then (choose (in_range beyond)
      (λ _. for_from q.fs r.d waiting.loop.x waiting.loop.through waiting.to waiting.by waiting.loop.e r.env beyond (memory w o s))
      λ _. value nothing (memory w o s)) r.κ ≡ q.whole
  next_means = unit_whole q r.κ (as_unit (meant v)) _ (sym (waiting.goes (meant v) (memory w o s)) ∙ r.means)

  module _ (z to by : Value) (a : meant z ≡ value_at w 0 (p.base + p.size)) (b : meant to ≡ value_at w 0 (p.base + p.size + 1))
      (c : meant by ≡ value_at w 0 (p.base + p.size + 2)) (n : P.Option Value)
      (h : OfInt (meant z) (λ x. OfInt (meant by) (λ y. written (P.option_map meant n) ≡ stepped x y))) where
    z_is : meant z ≡ number waiting.z
    z_is = a ∙ ap (λ (j : ℕ). value_at w 0 (p.base + j)) r.sized ∙ waiting.counter

    by_is : meant by ≡ number waiting.by
    by_is = c ∙ ap (λ (j : ℕ). value_at w 0 j) (at_is 2) ∙ waiting.step

    found : written (P.option_map meant n) ≡ stepped waiting.z waiting.by
    found = (h.is waiting.z (ap as_int z_is)).is waiting.by (ap as_int by_is)

    -- another number
    pub next_counts : {x : Value} → n ≡ P.Some x → Counting q t w o false row x to by p s
    unfolding choose
    next_counts {x} e =
        let f = stepped_to (in_range beyond) (ap (λ (r : P.Option Value). written (P.option_map meant r)) (sym e) ∙ found) in
        record {
          v = v;
          phase = COUNTED;
          frame = r;
          loop = waiting.loop;
          n = beyond;
          end = waiting.to;
          step = waiting.by;
          counter_is = f.1;
          end_is = b ∙ ap (λ (j : ℕ). value_at w 0 j) (at_is 1) ∙ waiting.end;
          step_is = by_is;
          room = waiting.room;
          means = rw f.0 at next_means;
        }

    -- none
    pub next_over : n ≡ P.None → Gives q t w o Nothing p s
    unfolding choose then
    next_over e =
        let f = stepped_past (in_range beyond) (number beyond) (ap (λ (r : P.Option Value). written (P.option_map meant r)) (sym e) ∙ found) in
        back r (omega (arith, waiting.room)) Nothing (rw f at next_means)
