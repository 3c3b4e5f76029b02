-- No two answers of the three functions of a shift for C, whatever words they are given: what they say in words follows from
-- what the services answer, of which there is one (shift/proofs/Determined).
use mathlib.Core.Bool.{Bool, false≢true}
use mathlib.Core.List.{List, [], ◌∷◌}
use mathlib.Core.Logic.{◌⊎◌, inl, inr}
use mathlib.Core.Path.{◌≡◌, sym, ap, ap₂, ◌∙◌}
use native.Mathlib.Omega.{arith}
use Prim.Native.Nat.{ℕ, ◌≤◌, ◌<◌}
use lib.ListN.{length}
use Rattle.tally.specs.Stands.{report_in}
use Rattle.tally.specs.declared.sums.Sums.{Sums}
use Rattle.shift.specs.Meanings.{admission_meant, keeps_all}
use Rattle.shift.specs.declared.Answer.{Answer}
use Rattle.shift.specs.declared.State.{State}
use Rattle.shift.proofs.Determined as Determined
use Rattle.grumpy_c.specs.Words.{with_front}
use Rattle.grumpy_c.specs.States.{STATE, state_words}
use Rattle.grumpy_c.specs.Shifts.{BEGIN, FEED, FINISH, admission_number, fed_number, ending_number, report_words, Left, as_before, held}
use Rattle.grumpy_c.specs.Shifts.{refuses, book_place, BeganC, begin_no_room, begin_told, FedC, feed_no_room, feed_told, FinishedC}
use Rattle.grumpy_c.specs.Shifts.{finish_no_room, finish_told}

-- ---- lengths

short_long : (a b m n : ℕ) {A : Type 0} → (a < m) ⊎ (b < n) → m ≤ a → n ≤ b → A
short_long a b m n (inl h) k l = absurd (omega arith)
short_long a b m n (inr h) k l = absurd (omega arith)

-- ---- states

left_one : {w u v : List ℕ} {s t : State} {b c : Bool} → Left w s u b → Left w t v c → s ≡ t → b ≡ c → u ≡ v
left_one (as_before e) (as_before f) z y = e ∙ sym f
left_one (as_before e) (held h) z y = absurd (false≢true (sym y))
left_one (held h) (as_before e) z y = absurd (false≢true y)
left_one {w} (held g) (held h) z y = g.written ∙ ap (λ (s : State). with_front w (state_words s)) z ∙ sym h.written

-- ---- begin

pub begin_determined : {edition : ℕ} {book table work : List ℕ} {allowance : ℕ} {state report t' w' s' r' t'' w'' s'' r'' : List ℕ} {m n : ℕ}
    → BeganC edition book table work allowance state report t' w' s' r' m → BeganC edition book table work allowance state report t'' w'' s'' r'' n
    → (m ≡ n) × (t' ≡ t'') × (w' ≡ w'') × (s' ≡ s'') × (r' ≡ r'')
begin_determined (begin_no_room h a b c d e) (begin_no_room k f g i j l) = (a ∙ sym f, b ∙ sym g, c ∙ sym i, d ∙ sym j, e ∙ sym l)
begin_determined {state = state} {report} (begin_no_room h a b c d e) (begin_told k l f g i j) = short_long (length state) (length report) STATE BEGIN h k l
begin_determined {state = state} {report} (begin_told h i a b c d) (begin_no_room k f g j l e) = short_long (length state) (length report) STATE BEGIN k h i
begin_determined {book = book} {report = report} (begin_told {a = x} h i a b c d) (begin_told {a = y} k l e f g j) =
    let z = Determined.begin_determined x y a e in
    let n = b ∙ ap (λ (x : Answer). admission_number x.told) z.0 ∙ sym f in (
      n,
      z.1,
      z.2,
      left_one c g (ap (λ (x : Answer). x.state) z.0) (ap (λ (x : Answer). keeps_all (admission_meant x.told).told) z.0),
      d ∙ ap₂ (λ (n : ℕ) (x : Answer). with_front report (n ∷ book_place (length book) (admission_meant x.told).place ∷ [])) n z.0 ∙ sym j,
    )

-- ---- feed

module _ {edition : ℕ} {book piece table work out state report t' w' o' s' r' t'' w'' o'' s'' r'' : List ℕ} {m n : ℕ} where
  pub feed_determined : FedC edition book piece table work out state report t' w' o' s' r' m
      → FedC edition book piece table work out state report t'' w'' o'' s'' r'' n
      → (m ≡ n) × (t' ≡ t'') × (w' ≡ w'') × (o' ≡ o'') × (s' ≡ s'') × (r' ≡ r'')
  feed_determined (feed_no_room h a b c d e f) (feed_no_room k g i j l p q) =
      (a ∙ sym g, b ∙ sym i, c ∙ sym j, d ∙ sym l, e ∙ sym p, f ∙ sym q)
  feed_determined (feed_no_room h a b c d e f) (feed_told k l g i j p) = short_long (length state) (length report) STATE FEED h k l
  feed_determined (feed_told h i a b c d) (feed_no_room k g j l p q e) = short_long (length state) (length report) STATE FEED k h i
  feed_determined (feed_told {a = x} h i a b c d) (feed_told {a = y} k l e f g j) =
      let z = Determined.feed_determined x y a e in
      let p = b ∙ ap (λ (x : Answer). fed_number x.told x.state.over) z.0 ∙ sym f in (
        p,
        z.1,
        z.2,
        z.3,
        left_one c g (ap (λ (x : Answer). x.state) z.0) (ap (λ (x : Answer). refuses x.told) z.0),
        d ∙ ap (λ (n : ℕ). with_front report (n ∷ [])) p ∙ sym j,
      )

-- ---- finish

module _ {edition : ℕ} {state report r' r'' : List ℕ} {m n : ℕ} where
  pub finish_determined : FinishedC edition state report r' m → FinishedC edition state report r'' n → (m ≡ n) × (r' ≡ r'')
  finish_determined (finish_no_room h a b) (finish_no_room k c d) = (a ∙ sym c, b ∙ sym d)
  finish_determined (finish_no_room h a b) (finish_told k i c d e) = short_long (length state) (length report) STATE FINISH h k i
  finish_determined (finish_told h i a b c) (finish_no_room k d e) = short_long (length state) (length report) STATE FINISH k h i
  finish_determined (finish_told h i a b c) (finish_told k j d e f) =
      let z = Determined.finish_determined a d in
      let y = b ∙ ap ending_number z.0 ∙ sym e in
      (y, c ∙ ap₂ (λ (n : ℕ) (s : Sums). with_front report (report_words n (report_in s))) y z.1 ∙ sym f)
