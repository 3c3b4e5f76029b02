-- The three functions of a shift for C, one after the other: what the words of a state stand for, from an empty input on to the
-- written report of the whole one, wherever it was cut (R14.6, R14.8).
use Rattle.std.specs.Prelude.{Ok, Err}
use mathlib.Core.Bool.{Bool, true, false, false≢true}
use mathlib.Core.List.{List, [], ◌++◌}
use mathlib.Core.Logic.{inl, inr}
use mathlib.Core.Option.{Option, none, some}
use mathlib.Core.Path.{◌≡◌, refl, sym, ap, subst, ◌∙◌}
use native.Mathlib.Omega.{arith}
use Prim.Native.Nat.{ℕ, ◌≤◌}
use lib.ListN.{length}
use Rattle.language.specs.Answers.{Lent}
use Rattle.language.specs.Edition as Edition
use Rattle.language.specs.Numbers.{short_memory, large_allowance, no_edition, long_source, text, no_reading, types, long_text}
use Rattle.language.specs.Numbers.{not_hexadecimal, wrong_count, not_one_token, endless_node, many_units}
use Rattle.language.specs.Shift.{ShiftRefusal, sheet, no_book, many_lines, Admits, Report}
use Rattle.language.specs.Shift as Shift
use Rattle.language.specs.Tokens.{Vocabulary}
use Rattle.language.proofs.Shift.OneReport.{one_admission}
use Rattle.tally.specs.Stands.{report_in}
use Rattle.shift.specs.After.{After}
use Rattle.shift.specs.Meanings.{admission_meant, granted, keeps_all, lent, over_told}
use Rattle.shift.specs.Promises.{Feeds, feeds, turned, finished}
use Rattle.shift.specs.Promises as Promises
use Rattle.shift.specs.Taking.{EndedLine, needed, printed_over, Takes}
use Rattle.shift.specs.Meanings.{Admission}
use Rattle.shift.specs.declared.State.{State}
use Rattle.shift.proofs.Finishing.{reports}
use Rattle.shift.proofs.Standing.{after_start, after_more}
use Rattle.grumpy_c.specs.Words.{with_front}
use Rattle.grumpy_c.specs.States.{STATE, state_in, Holds}
use Rattle.grumpy_c.specs.Shifts.{FEED, FINISH, told_number, report_words, Left, as_before, held, refuses, BeganC, begin_no_room}
use Rattle.grumpy_c.specs.Shifts.{begin_told, FedC, feed_no_room, feed_told, FinishedC, finish_no_room, finish_told}

-- ---- which state there is

left_held : {w w' : List ℕ} {s : State} (b : Bool) → Left w s w' b → b ≡ false → Holds w s w'
left_held true (as_before e) z = absurd (false≢true (sym z))
left_held false (held h) z = h

-- all but 40 leave a new one
not_kept : (t : Option ShiftRefusal) → (told_number t ≡ 40 → ⊥) → keeps_all t ≡ false
not_kept none other = refl
not_kept (some (sheet short_memory)) other = absurd (other refl)
not_kept (some (sheet large_allowance)) other = refl
not_kept (some (sheet no_edition)) other = refl
not_kept (some (sheet long_source)) other = refl
not_kept (some (sheet (text f))) other = refl
not_kept (some (sheet no_reading)) other = refl
not_kept (some (sheet (types r))) other = refl
not_kept (some (sheet long_text)) other = refl
not_kept (some (sheet not_hexadecimal)) other = refl
not_kept (some (sheet wrong_count)) other = refl
not_kept (some (sheet not_one_token)) other = refl
not_kept (some (sheet endless_node)) other = refl
not_kept (some (sheet many_units)) other = refl
not_kept (some no_book) other = refl
not_kept (some many_lines) other = refl

not_granted : {y : ShiftRefusal} {A : Type 0} → ◌≡◌ {A = Option ShiftRefusal} (some y) none → A
not_granted e = let z : ◌≡◌ {A = ℕ} 0 1 = cc in absurd (omega arith)

not_refused : (a : Admission) → (admission_meant a).told ≡ none → refuses a ≡ false
not_refused (Ok u) e = refl
not_refused (Err d) e = not_granted e

-- ---- begun

module _ {edition : ℕ} {book table work : List ℕ} {allowance : ℕ} {state report table' work' state' report' : List ℕ} {n : ℕ} where
  pub begin_stands : BeganC edition book table work allowance state report table' work' state' report' n → (n ≡ 40 → ⊥) → (room : ℕ)
      → After edition book room [] (state_in state')
  begin_stands (begin_no_room h e a b c d) other room = absurd (other e)
  begin_stands (begin_told {a} h k b e x t) other room =
      let z : Holds state a.state state' = left_held _ x (not_kept (admission_meant a.told).told (λ z. other (e ∙ z))) in
      subst (After edition book room []) (sym (z.read ∙ b.state)) (after_start allowance)

-- ---- fed

taken : {edition : ℕ} {book piece out out' : List ℕ} {s s' : State} {a : Admission} → Feeds edition book piece out s out' a s' → refuses a ≡ false
    → (lines : List EndedLine) × Takes edition book (length out) s piece lines s'
taken (feeds t e) z = (_, t)
taken (turned e) z = absurd (false≢true (sym z))

-- what is lent to a piece
abbrev pub lent_with : List ℕ → List ℕ → List ℕ → List ℕ → Lent
lent_with table work out state = lent table work (length out) (state_in state).allowance

module _ {edition : ℕ} {book piece table work out state report table' work' out' state' report' : List ℕ} {n : ℕ} where
  -- whatever memory it was that is enough, and whatever lay in the output
  pub feed_stands : FedC edition book piece table work out state report table' work' out' state' report' n → STATE ≤ length state
      → FEED ≤ length report → Admits edition book (lent_with table work out state) granted → (input : List ℕ)
      → After edition book (length out) input (state_in state) → After edition book (length out) (input ++ piece) (state_in state')
  feed_stands (feed_no_room (inl h) a b c d e f) long room g input s = absurd (omega arith)
  feed_stands (feed_no_room (inr h) a b c d e f) long room g input s = absurd (omega arith)
  feed_stands (feed_told {a} h k f e x t) long room g input s =
      let plain = not_refused a.told (ap (λ (z : Shift.Admission). z.told) (one_admission f.admits g)) in
      let z : Holds state a.state state' = left_held _ x plain in
      subst (After edition book (length out) (input ++ piece)) (sym z.read) (after_more s (taken f.tells plain).1)

-- ---- finished

-- the written report of the input that the state stands for, in words, whatever lay in the output
pub record Reported (edition : ℕ) (book : List ℕ) (room allowance : ℕ) (input report report' : List ℕ) (n : ℕ) : Type 0 where
  pub told : Option ShiftRefusal
  pub written : Report
  pub lines : List EndedLine
  pub shift : (output : List ℕ)
      → Shift.Shift edition book (needed room allowance) input output told written (printed_over output lines)
  pub number : n ≡ told_number told
  pub words : report' ≡ with_front report (report_words n written)

module _ {edition : ℕ} {state report report' : List ℕ} {n : ℕ} where
  pub finish_stands : FinishedC edition state report report' n → STATE ≤ length state → FINISH ≤ length report → (v : Vocabulary)
      → Edition.edition edition ≡ some v → (ed : ℕ) (book : List ℕ) (room : ℕ) (input : List ℕ) → After ed book room input (state_in state)
      → Reported ed book room (state_in state).allowance input report report' n
  finish_stands (finish_no_room (inl h) a b) long room v known ed book r input s = absurd (omega arith)
  finish_stands (finish_no_room (inr h) a b) long room v known ed book r input s = absurd (omega arith)
  finish_stands (finish_told {sums = sums} h k (finished z) m t) long room v known ed book r input s =
      let x = reports s in
      record {
        told = over_told (state_in state).over;
        written = report_in sums;
        lines = x.lines;
        shift = x.written;
        number = m;
        words = t;
      }
  finish_stands (finish_told h k (Promises.no_edition z) m t) long room v known ed book r input s =
      let z : ◌≡◌ {A = ℕ} 0 1 = cc in absurd (omega arith)
