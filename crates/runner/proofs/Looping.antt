-- What the functions of `loops` ask and promise, by the ways through them.
use Rattle.std.specs.Prelude as P
use mathlib.Core.Path.{◌≡◌, refl, sym, ap, ◌∙◌}
use mathlib.Core.Bool.{Bool, true, false}
use mathlib.Core.List.{List}
use Prim.Native.Nat.{ℕ, ◌+◌, ◌*◌, ◌≤◌, ◌<◌}
use native.Mathlib.Omega.{arith}
use lib.Dec.{eqb}
use lib.ListN.{length}
use Rattle.language.specs.Sizes.{NODES, TABLE, WORK}
use Rattle.language.specs.Tokens.{THROUGH}
use Rattle.language.specs.State as M
use Rattle.language.specs.State.{number, as_int}
use Rattle.language.specs.Meaning.{is_zero, towards, due}
use Rattle.layout.specs.Table.{KIND, OWN, SECOND, row_word}
use Rattle.layout.specs.Decode.{counts}
use Rattle.layout.specs.Slots.{SLOTS, value_at, put_slot}
use Rattle.layout.specs.Frames.{FRAMES, put_phase}
use Rattle.layout.specs.Values.{meant, Survives}
use Rattle.layout.specs.declared.values.Value.{Value}
use Rattle.layout.specs.declared.values.Value.TheVariants.{Nothing}
use Rattle.machine.specs.Operands.{OfInt, stepped, written}
use Rattle.machine.specs.declared.state.Tally.{Tally}
use Rattle.numbers.specs.declared.Stop.{Stop}
use Rattle.runner.specs.Phases.{ARGUMENT, COUNTED, NAMELESS}
use Rattle.runner.specs.Waiting.{Run}
use Rattle.runner.specs.Standing.{Resumes, above, begun, given, over, Some, Goes, LastOf}
use Rattle.runner.specs.Loops.{Counting, BodyBegins}
use Rattle.runner.specs.declared.state.Spot.{Spot}
use Rattle.runner.specs.Standing.{Ending}
use Rattle.runner.specs.declared.state.Next.{Next}
use Rattle.runner.proofs.Passing.{waiting}
use Rattle.runner.proofs.Counting.{bounded_two, bounded_three, open_zero, open_turns}
use Rattle.runner.proofs.Turns.{turn_due, turn_over, turn_slots, turn_passes, next_slots, next_counts, next_over}
use Rattle.runner.proofs.Promises.{goes_to}

-- ---- bounded

abbrev Bounding : List ℕ → List ℕ → Value → ℕ → Spot → Tally → Run → List ℕ → Type 0
Bounding t w v row p s q o = Resumes q t w o v row ARGUMENT p s

module _ {t w : List ℕ} {v : Value} {row : ℕ} {p : Spot} {s : Tally} where
  pub bounds_slots : Some (Bounding t w v row p s) → (WORK ≤ length w) × (p.base + p.size + 1 < SLOTS)
  bounds_slots x = (x.holds.fair.room.long, omega (arith, x.holds.sized, (waiting x.holds refl).room))

  module _ {k : ℕ} (l : LastOf t w p.height k) (c : counts (row_word t row KIND) ≡ true) {at : ℕ} (a : at ≡ p.base + p.size) {from : Value}
      (e : meant from ≡ value_at w 0 at) where
    pub bounds_two : k ≡ 1 → {by : Value} → OfInt (meant from) (λ x. OfInt (meant v) (λ y. meant by ≡ number (towards x y)))
        → (q : Run) (o : List ℕ) → Bounding t w v row p s q o → Counting q t w o true row from v by p s
    bounds_two f h q o r = bounded_two r l.last c (sym l.number ∙ f) (e ∙ ap (λ (j : ℕ). value_at w 0 j) a) h

    pub bounds_three : (k ≡ 1 → ⊥) → {to : Value} → meant to ≡ value_at w 0 (at + 1)
        → (q : Run) (o : List ℕ) → Bounding t w v row p s q o → Counting q t w o true row from to v p s
    bounds_three n f q o r =
        bounded_three r l.last c (λ z. n (l.number ∙ z)) (e ∙ ap (λ (j : ℕ). value_at w 0 j) a) (f ∙ ap (λ (j : ℕ). value_at w 0 (j + 1)) a)

-- ---- open and turn

abbrev Counted : Bool → List ℕ → List ℕ → ℕ → Value → Value → Value → Spot → Tally → Run → List ℕ → Type 0
Counted first t w node z to by p s q o = Counting q t w o first node z to by p s

module _ {t w : List ℕ} {node : ℕ} {z to by : Value} {p : Spot} {s : Tally} where
  pub counting_row : {first : Bool} → Some (Counted first t w node z to by p s) → (TABLE ≤ length t) × (node < NODES)
  counting_row x = (x.holds.frame.scene.long, x.holds.loop.head.inside)

  module _ {b : Bool} (h : OfInt (meant by) (λ x. b ≡ is_zero x)) where
    zero_is : {q : Run} {o : List ℕ} (c : Counted true t w node z to by p s q o) → b ≡ is_zero c.step
    zero_is c = h.is c.step (ap as_int c.step_is)

    pub opens_zero : b ≡ true → {place : ℕ} → place ≡ row_word t node OWN → (v : Value) {r : Next}
        → r ≡ over (Ending.stopped Stop.ZeroStep place) v p s → Goes (Counted true t w node z to by p s) t w (3 * s.units + p.height + 3) r
    opens_zero e {place} f v g = goes_to refl g (λ q o c. open_zero c (sym (zero_is c) ∙ e) place f v) (omega arith)

    pub opens_turns : b ≡ false → (q : Run) (o : List ℕ) → Counted true t w node z to by p s q o → Counted false t w node z to by p s q o
    opens_turns e q o c = open_turns c (sym (zero_is c) ∙ e)

  -- what a pass asks
  pub turn_asks : Some (Counted false t w node z to by p s) → (TABLE ≤ length t) × (node < NODES) × (WORK ≤ length w)
      × (p.height < FRAMES) × (p.base + p.size + 2 < SLOTS)
  turn_asks x = (
    x.holds.frame.scene.long,
    x.holds.loop.head.inside,
    x.holds.frame.fair.room.long,
    omega (arith, x.holds.frame.deep),
    turn_slots x.holds,
  )

  module _ {kind : ℕ} (k : kind ≡ row_word t node KIND) {b : Bool}
      (h : OfInt (meant to) (λ x. OfInt (meant by) (λ y. OfInt (meant z) (λ n. b ≡ due (eqb kind THROUGH) x y n)))) where
    pub turns_pass : b ≡ true → {v : Value} {w1 : List ℕ} {r : Next} → BodyBegins t w w1 node z to by v p s r
        → Goes (Counted false t w node z to by p s) t w1 (3 * s.units + p.height + 3) r
    turns_pass e g =
        goes_to g.laid g.is
        (λ q o c. turn_passes c g.survive.0 g.survive.1 g.survive.2 (sym (turn_due c k h) ∙ e)) (omega arith)

    pub turns_over : b ≡ false → {r : Next} → r ≡ given Nothing p s → Goes (Counted false t w node z to by p s) t w (3 * s.units + p.height + 3) r
    turns_over e g = goes_to refl g (λ q o c. turn_over c (sym (turn_due c k h) ∙ e)) (omega arith)

-- ---- pass

pub pass_begun : {t w w1 w2 w3 w4 : List ℕ} {node part : ℕ} {z to by v : Value} {p : Spot} {s : Tally} {r : Next} → part ≡ row_word t node SECOND
    → (w1 ≡ put_slot w 0 (p.base + p.size) NAMELESS z) × Survives z → (w2 ≡ put_slot w1 0 (p.base + p.size + 1) NAMELESS to) × Survives to
    → (w3 ≡ put_slot w2 0 (p.base + p.size + 2) NAMELESS by) × Survives by → w4 ≡ put_phase w3 p.height COUNTED
    → r ≡ begun part v (above p.base (p.size + 3) p) s → BodyBegins t w w4 node z to by v p s r
pass_begun {to = to} {by = by} {v = v} {p = p} {s = s} c d e f g h = record {
  laid = g ∙ ap (λ (x : List ℕ). put_phase x p.height COUNTED)
      (f.0 ∙ ap (λ (x : List ℕ). put_slot x 0 (p.base + p.size + 2) NAMELESS by)
      (e.0 ∙ ap (λ (x : List ℕ). put_slot x 0 (p.base + p.size + 1) NAMELESS to) d.0));
  is = h ∙ ap (λ (j : ℕ). begun j v (above p.base (p.size + 3) p) s) c;
  survive = (d.1, e.1, f.1);
}

-- ---- next

-- a value of a slot, by another name of its number
at_slot : (w : List ℕ) (i : ℕ) {at a : ℕ} {v : M.Value} → at ≡ a → v ≡ value_at w 0 (at + i) → v ≡ value_at w 0 (a + i)
at_slot w i e f = f ∙ ap (λ (j : ℕ). value_at w 0 (j + i)) e

abbrev Passed : List ℕ → List ℕ → Value → ℕ → Spot → Tally → Run → List ℕ → Type 0
Passed t w v row p s q o = Resumes q t w o v row COUNTED p s

module _ {t w : List ℕ} {v : Value} {row : ℕ} {p : Spot} {s : Tally} where
  pub nexts_slots : Some (Passed t w v row p s) → (WORK ≤ length w) × (p.base + p.size + 2 < SLOTS)
  nexts_slots x = (x.holds.fair.room.long, next_slots x.holds)

  module _ (z to by : Value) {at : ℕ} (e : at ≡ p.base + p.size) (a : meant z ≡ value_at w 0 at) (b : meant to ≡ value_at w 0 (at + 1))
      (c : meant by ≡ value_at w 0 (at + 2)) (n : P.Option Value) (h : OfInt (meant z) (λ x. OfInt (meant by) (λ y. written (P.option_map meant n) ≡ stepped x y))) where
    pub nexts_turn : {x : Value} → n ≡ P.Some x → (q : Run) (o : List ℕ) → Passed t w v row p s q o → Counting q t w o false row x to by p s
    nexts_turn f q o r = next_counts r z to by (a ∙ ap (λ (j : ℕ). value_at w 0 j) e) (at_slot w 1 e b) (at_slot w 2 e c) n h f

    pub nexts_over : n ≡ P.None → {r : Next} → r ≡ given Nothing p s → Goes (Passed t w v row p s) t w (3 * s.units + p.height + 3) r
    nexts_over f g =
        goes_to refl g (λ q o r. next_over r z to by (a ∙ ap (λ (j : ℕ). value_at w 0 j) e) (at_slot w 1 e b) (at_slot w 2 e c) n h f) (omega arith)
