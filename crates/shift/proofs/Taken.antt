-- Bytes that a state takes: pieces put together, and that there is one end.
use lib.ListN.{length, drop}
use mathlib.Core.Bool.{false}
use mathlib.Core.List.{List, [], ◌∷◌, ◌++◌}
use mathlib.Core.Path.{◌≡◌, refl, sym, ap, ap₂, subst, ◌∙◌}
use native.Mathlib.Omega.{arith}
use Prim.Native.Nat.{ℕ}
use Rattle.language.specs.Answers.{Lent}
use Rattle.language.specs.Shift as Shift
use Rattle.language.specs.Shift.{Runs}
use Rattle.language.specs.Text.{is_in_line}
use Rattle.language.proofs.Text.Choices.{clash}
use Rattle.language.proofs.Shift.LineOutcomes.{one_runs}
use Rattle.numbers.proofs.Apart.{stop_of, stop_back}
use Rattle.tally.specs.Stands.{outcome_meant}
use Rattle.std.specs.Prelude.{Option, Some, None}
use Rattle.tally.specs.declared.lines.Job.{Job}
use Rattle.tally.specs.declared.lines.Part.{Part}
use Rattle.tally.specs.declared.sums.Outcome.{Outcome}
use Rattle.shift.specs.declared.State.{State}
use Rattle.shift.specs.Taking.{EndedLine, Ends, ends_bad, ends_run, printed_over, summed_up, Going, EndsNone, past, full, inside}
use Rattle.shift.specs.Taking.{Takes, takes_none, takes_byte, takes_line}

-- ---- one behind the other

pub over_joined : (out : List ℕ) (xs ys : List EndedLine) → printed_over out (xs ++ ys) ≡ printed_over (printed_over out xs) ys
unfolding printed_over
over_joined out [] ys = refl
over_joined out (x ∷ xs) ys = over_joined (x.printed ++ drop (length x.printed) out) xs ys

none_allowance : {s : State} {b : ℕ} {m : State} → EndsNone s b m → m.allowance ≡ s.allowance
none_allowance (past h) = refl
none_allowance (full h n) = refl
none_allowance (inside g i) = refl

module _ {ed : ℕ} {book : List ℕ} {room : ℕ} where
  pub takes_joined : {s m e : State} {x y : List ℕ} {xs ys : List EndedLine} → Takes ed book room s x xs m → Takes ed book room m y ys e
      → Takes ed book room s (x ++ y) (xs ++ ys) e
  takes_joined takes_none g = g
  takes_joined (takes_byte a f) g = takes_byte a (takes_joined f g)
  takes_joined (takes_line h i c f) g = takes_line h i c (takes_joined f g)

  -- the allowance stays
  pub takes_allowance : {s e : State} {bytes : List ℕ} {lines : List EndedLine} → Takes ed book room s bytes lines e → e.allowance ≡ s.allowance
  takes_allowance takes_none = refl
  takes_allowance (takes_byte a f) = takes_allowance f ∙ none_allowance a
  takes_allowance (takes_line h i c f) = takes_allowance f

-- ---- one end of a line

abbrev outcome_of : Shift.Outcome → Outcome
outcome_of Shift.bad = Outcome.Bad
outcome_of (Shift.stopped w) = Outcome.Stopped (stop_of w)
outcome_of (Shift.paid z) = Outcome.Paid z

outcome_back : (o : Outcome) → outcome_of (outcome_meant o) ≡ o
outcome_back Outcome.Bad = refl
outcome_back (Outcome.Stopped w) = ap Outcome.Stopped (stop_back w)
outcome_back (Outcome.Paid z) = refl

same_outcome : (o p : Outcome) → outcome_meant o ≡ outcome_meant p → o ≡ p
same_outcome o p e = sym (outcome_back o) ∙ ap outcome_of e ∙ outcome_back p

bad_good : {k : Option Job} {j : Job} → k ≡ None → k ≡ Some j → ⊥
bad_good e f = cc

same_job : {k : Option Job} {i j : Job} → k ≡ Some i → k ≡ Some j → i ≡ j
same_job e f = cc

module _ {ed : ℕ} {book : List ℕ} {l : Lent} where
  one_run : {a b c d : ℕ} {o p : Outcome} {x y : List ℕ} → a ≡ c → b ≡ d → Runs ed book l record { picks = a; rate = b } (outcome_meant o) x
      → Runs ed book l record { picks = c; rate = d } (outcome_meant p) y
      → ◌≡◌ {A = EndedLine} record { outcome = o; printed = x } record { outcome = p; printed = y }
  one_run {a} {b} {c} {d} {o} {p} {x} e f r q =
      let j : ◌≡◌ {A = Shift.Job} record { picks = a; rate = b } record { picks = c; rate = d } = cc in
      let z = one_runs (subst (λ (j : Shift.Job). Runs ed book l j (outcome_meant o) x) j r) q in
      ap₂ (λ (o : Outcome) (x : List ℕ). record { outcome = o; printed = x }) (same_outcome o p z.0) z.1

module _ {ed : ℕ} {book : List ℕ} {l : Lent} {part : Part} where
  pub one_end : {x y : EndedLine} → Ends ed book l part x → Ends ed book l part y → x ≡ y
  one_end (ends_bad e) (ends_bad f) = refl
  one_end (ends_bad e) (ends_run f q) = absurd (bad_good e f)
  one_end (ends_run e r) (ends_bad f) = absurd (bad_good f e)
  one_end (ends_run e r) (ends_run f q) = one_run (ap (λ (j : Job). j.picks) (same_job e f)) (ap (λ (j : Job). j.rate) (same_job e f)) r q

-- ---- one end of a piece

none_or_line : {s : State} {b : ℕ} {m : State} {A : Type 0} → EndsNone s b m → Going s → is_in_line b ≡ false → A
none_or_line (past h) g i = absurd (clash h g.going)
none_or_line (full h n) g i = absurd (omega (arith, g.few))
none_or_line (inside k j) g i = absurd (clash j i)

one_none : {s : State} {b : ℕ} {m e : State} → EndsNone s b m → EndsNone s b e → m ≡ e
one_none (past h) (past k) = refl
one_none (past h) (full k n) = absurd (clash h k)
one_none (past h) (inside k i) = absurd (clash h k.going)
one_none (full h n) (past k) = absurd (clash k h)
one_none (full h n) (full k r) = refl
one_none (full h n) (inside k i) = absurd (omega (arith, k.few))
one_none (inside g i) (past k) = absurd (clash k g.going)
one_none (inside g i) (full k n) = absurd (omega (arith, g.few))
one_none (inside g i) (inside k j) = refl

module _ {ed : ℕ} {book : List ℕ} {room : ℕ} where
  -- whatever the state is, what the lines come to and the state after them are fixed
  pub one_taking : {s e f : State} {bytes : List ℕ} {xs ys : List EndedLine} → Takes ed book room s bytes xs e → Takes ed book room s bytes ys f
      → (xs ≡ ys) × (e ≡ f)
  one_taking takes_none takes_none = (refl, refl)
  one_taking {f = f} {ys = ys} (takes_byte {bytes = bytes} a t) (takes_byte b u) =
      one_taking t (subst (λ (m : State). Takes ed book room m bytes ys f) (sym (one_none a b)) u)
  one_taking (takes_byte a t) (takes_line g i c u) = none_or_line a g i
  one_taking (takes_line g i c t) (takes_byte b u) = none_or_line b g i
  one_taking {s} {f = f} (takes_line {bytes = bytes} {line = x} g i c t) (takes_line {line = y} {lines = ys} k j d u) =
      let q = one_end c d in
      let z = one_taking t (subst (λ (x : EndedLine). Takes ed book room (summed_up s x.outcome) bytes ys f) (sym q) u) in
      (ap₂ (λ (x : EndedLine) (xs : List EndedLine). x ∷ xs) q z.0, z.1)
