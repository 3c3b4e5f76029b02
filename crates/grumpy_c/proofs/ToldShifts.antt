-- How the answers of a shift are told in words.
use Rattle.std.specs.Prelude.{Ok, Err}
use mathlib.Core.Bool.{Bool}
use mathlib.Core.List.{List, [], ◌∷◌, ◌++◌}
use mathlib.Core.Path.{◌≡◌, refl, sym, ap, subst, ◌∙◌}
use Prim.Native.Nat.{ℕ, ◌≤◌}
use borrow.Author.Tests.{ne_eqb}
use lib.ListN.{length, get_or}
use Rattle.language.specs.Shift.{shift_number}
use Rattle.pairs.specs.Spots.{meant}
use Rattle.pairs.specs.declared.Spot.{Spot}
use Rattle.tally.specs.Stands.{report_in}
use Rattle.tally.specs.declared.sums.Sums.{Sums}
use Rattle.shift.specs.Meanings.{why_meant, admission_meant, keeps_all}
use Rattle.shift.specs.Promises.{Begin, Feed, Finish}
use Rattle.shift.specs.Meanings.{Admission}
use Rattle.shift.specs.declared.Answer.{Answer}
use Rattle.shift.specs.Meanings.{Ending}
use Rattle.shift.specs.declared.State.{State}
use Rattle.shift.specs.declared.Why.{Why}
use Rattle.grumpy_c.specs.Words.{with_front, nine}
use Rattle.grumpy_c.specs.States.{STATE, state_in}
use Rattle.grumpy_c.specs.Shifts.{BEGIN, FEED, FINISH, admission_number, fed_number, ending_number, report_words, Left, refuses, BeganC}
use Rattle.grumpy_c.specs.Shifts.{book_place, begin_told, FedC, feed_told, FinishedC, finish_told}
use Rattle.grumpy_c.proofs.TwosComplement.{Signed, signed}

-- ---- before any line

abbrev Told : ℕ → Admission → List ℕ → List ℕ → ℕ → Type 0
Told long a w w' n = (n ≡ admission_number a) × (w' ≡ with_front w (n ∷ book_place long (admission_meant a).place ∷ []))

pub granted_told : (long : ℕ) (a : Admission) (w w' : List ℕ) → a ≡ (Ok tt) → w' ≡ with_front w (0 ∷ 0 ∷ []) → Told long a w w' 0
unfolding book_place
granted_told long a w w' e h = subst (λ (a : Admission). Told long a w w' 0) (sym e) (refl, h)

pub refused_told : (long : ℕ) (a : Admission) (w w' : List ℕ) (y : Why) (x : Spot) (n p : ℕ) → a ≡ Err (record { why = y; spot = x }) → n ≡ shift_number (why_meant y)
    → p ≡ book_place long (meant x) → w' ≡ with_front w (n ∷ p ∷ []) → Told long a w w' n
refused_told long a w w' y x n p e m q h =
    subst (λ (a : Admission). Told long a w w' n) (sym e) (m, h ∙ ap (λ (p : ℕ). with_front w (n ∷ p ∷ [])) q)

-- ---- in the end

module _ (w w' : List ℕ) (n : ℕ) (s : Sums) (sum least largest : ℕ) where
  pub report_told : Signed s.sum sum → Signed s.least least → Signed s.largest largest
      → w' ≡ with_front w (n ∷ s.lines ∷ s.bad ∷ (nine s.stops ++ (sum ∷ least ∷ largest ∷ []))) → w' ≡ with_front w (report_words n (report_in s))
  unfolding report_words
  report_told b c d h = h ∙ ap (with_front w) (rw (signed b, signed c, signed d) refl)

-- ---- the contracts

kept_as : {w w' : List ℕ} {s : State} {b c : Bool} → b ≡ c → Left w s w' b → Left w s w' c
kept_as {w} {w'} {s} e h = subst (Left w s w') e h

module _ (edition : ℕ) (book table work : List ℕ) (allowance : ℕ) (state report table' work' state' report' : List ℕ) where
  pub began_c : (a : Answer) (kept : Bool) (n : ℕ) → STATE ≤ length state → BEGIN ≤ length report
      → Begin edition book table work allowance a table' work' → kept ≡ keeps_all (admission_meant a.told).told
      → Left state a.state state' kept → Told (length book) a.told report report' n
      → BeganC edition book table work allowance state report table' work' state' report' n
  began_c a kept n h k b e l t = begin_told h k b t.0 (kept_as e l) t.1

module _ (edition : ℕ) (book piece table work out state report table' work' out' state' report' : List ℕ) where
  pub fed_c : (a : Answer) (s : State) (kept : Bool) (n : ℕ) → STATE ≤ length state → FEED ≤ length report → s ≡ state_in state
      → Feed edition book piece table work out s a table' work' out' → kept ≡ refuses a.told → Left state a.state state' kept
      → n ≡ fed_number a.told a.state.over → report' ≡ with_front report (n ∷ [])
      → FedC edition book piece table work out state report table' work' out' state' report' n
  fed_c a s kept n h k r f e l m t =
      feed_told h k (subst (λ (s : State). Feed edition book piece table work out s a table' work' out') r f) m (kept_as e l) t

pub finished_c : (edition : ℕ) (state report report' : List ℕ) (e : Ending) (sums : Sums) (s : State) (n : ℕ) → STATE ≤ length state
    → FINISH ≤ length report → s ≡ state_in state → Finish edition s e sums → n ≡ ending_number e
    → report' ≡ with_front report (report_words n (report_in sums)) → FinishedC edition state report report' n
finished_c edition state report report' e sums s n h k r f m t =
    finish_told h k (subst (λ (s : State). Finish edition s e sums) r f) m t
