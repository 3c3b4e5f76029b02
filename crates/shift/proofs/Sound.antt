-- What is so of an input so far, wherever it is cut: no more lines than there may be, room for the one that has begun, and
-- pays that are ints (R14.6).
use lib.IntN.{ℤ}
use lib.ListN.{length, length-append}
use mathlib.Core.Bool.{false}
use mathlib.Core.List.{List, [], ◌∷◌, ◌++◌}
use mathlib.Core.Path.{◌≡◌, refl, sym, subst}
use native.Mathlib.Omega.{arith}
use Prim.Native.Nat.{ℕ, ◌≤◌, ◌<◌}
use Rattle.language.specs.Sizes.{LINES}
use Rattle.language.specs.Answers.{Lent}
use Rattle.language.specs.Shift.{Job, Outcome, bad, stopped, paid, Runs, pay_before, pays}
use Rattle.language.specs.Feeding.{Sofar, begun, with_outcome, Steps, step_past, step_full, step_byte, step_feed, Fed, fed_none, fed_more}
use Rattle.language.proofs.Text.Choices.{clash}
use Rattle.shift.proofs.Lending.{paid_int}
use Rattle.language.proofs.Shift.Totals.{pays_more, AllInRange, all_none, all_more}

-- ---- lines

pub record Fits (s : Sofar) : Type 0 where
  pub few : length s.outcomes ≤ LINES
  pub room : s.over ≡ false → 0 < length s.part → length s.outcomes < LINES

pub begun_fits : (output : List ℕ) → Fits (begun output)
begun_fits output = record { few = omega arith; room = λ g h. absurd (omega arith) }

module _ {ed : ℕ} {book : List ℕ} {l : Lent} where
  step_fits : {s e : Sofar} {b : ℕ} → Fits s → Steps ed book l s b e → Fits e
  step_fits h (step_past k) = h
  step_fits h (step_full k n) = record { few = h.few; room = λ g. absurd (clash refl g) }
  step_fits h (step_byte k n i) = record { few = h.few; room = λ g p. n }
  step_fits {s} h (step_feed {o = o} k n i c) =
      record { few = omega (arith, length-append s.outcomes (o ∷ [])); room = λ g p. absurd (omega arith) }

  pub fed_fits : {s e : Sofar} {x : List ℕ} → Fits s → Fed ed book l s x e → Fits e
  fed_fits h fed_none = h
  fed_fits h (fed_more a f) = fed_fits (step_fits h a) f

-- ---- pays

abbrev pub Ints : Sofar → Type 0
Ints s = AllInRange (pays s.outcomes)

pub begun_ints : (output : List ℕ) → Ints (begun output)
unfolding pays
begun_ints output = all_none

all_joined : {ys zs : List ℤ} → AllInRange ys → AllInRange zs → AllInRange (ys ++ zs)
all_joined all_none q = q
all_joined (all_more r p) q = all_more r (all_joined p q)

-- one line more
more_ints : (s : Sofar) (o : Outcome) (printed : List ℕ) → Ints s → AllInRange (pay_before o []) → Ints (with_outcome s o printed)
more_ints s o printed h r = subst AllInRange (sym (pays_more s.outcomes o)) (all_joined h r)

pub bad_ints : (s : Sofar) (printed : List ℕ) → Ints s → Ints (with_outcome s bad printed)
bad_ints s printed h = more_ints s bad printed h all_none

pub run_ints : {ed : ℕ} {book : List ℕ} {l : Lent} {j : Job} (s : Sofar) (o : Outcome) (printed : List ℕ) → Ints s → Runs ed book l j o printed
    → Ints (with_outcome s o printed)
run_ints s bad printed h x = more_ints s bad printed h all_none
run_ints s (stopped w) printed h x = more_ints s (stopped w) printed h all_none
run_ints s (paid z) printed h x = more_ints s (paid z) printed h (all_more (paid_int x) all_none)
