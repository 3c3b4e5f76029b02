-- What the C interface tells of a shift, and the contracts of its three functions over those of the services (R14).
use Rattle.std.specs.Prelude.{Ok, Err, is_err}
use Rattle.std.specs.Prelude.{Bool, true, false, cond, List, [], ◌∷◌, ◌⊎◌, ◌≡◌, ℕ, ◌≤◌, ◌<◌, eqb, length}
use Rattle.std.proofs.Math.Option.{Option, none, some}
use Rattle.std.specs.Int.{w64}
use Rattle.std.proofs.Common.{of_z}
use Rattle.language.specs.Numbers.{short_memory, refusal_number}
use Rattle.language.specs.Pairs.{Place}
use Rattle.language.specs.Shift.{ShiftRefusal, shift_number, Report}
use Rattle.language.specs.State.{no_unit, too_deep, out_of_range, zero_divisor, cell_freed, cells_full, not_a_byte}
use Rattle.language.specs.State.{output_full, zero_step}
use Rattle.numbers.specs.Meanings.{refusal_meant}
use Rattle.tally.specs.Stands.{report_in}
use Rattle.tally.specs.declared.sums.Sums.{Sums}
use Rattle.shift.specs.Meanings.{why_meant, admission_meant, keeps_all, over_told}
use Rattle.shift.specs.Promises.{Begin, Feed, Finish}
use Rattle.shift.specs.Meanings.{Admission}
use Rattle.shift.specs.declared.Answer.{Answer}
use Rattle.shift.specs.Meanings.{Ending}
use Rattle.shift.specs.declared.State.{State}
use Rattle.grumpy_c.specs.Words.{with_front}
use Rattle.grumpy_c.specs.States.{STATE, state_in, Holds}

-- words of the three reports
abbrev pub BEGIN : ℕ
BEGIN = 2

abbrev pub FEED : ℕ
FEED = 1

abbrev pub FINISH : ℕ
FINISH = 15

-- ---- numbers

abbrev pub told_number : Option ShiftRefusal → ℕ
told_number none = 0
told_number (some y) = shift_number y

abbrev pub admission_number : Admission → ℕ
admission_number a = told_number (admission_meant a).told

-- after a piece: 46 where there was a line too many
abbrev pub fed_number : Admission → Bool → ℕ
fed_number (Ok u) over = told_number (over_told over)
fed_number (Err d) over = shift_number (why_meant d.why)

abbrev pub ending_number : Ending → ℕ
ending_number (Ok over) = told_number (over_told over)
ending_number (Err y) = refusal_number (refusal_meant y)

-- ---- the state

-- the state is left alone, or there is another
pub data Left (w : List ℕ) (s : State) (w' : List ℕ) : Bool → Type 0 where
  as_before : w' ≡ w → Left w s w' true
  held : Holds w s w' → Left w s w' false

abbrev pub refuses : Admission → Bool
refuses = is_err

-- ---- the report in the end

-- lines, bad lines, lines for each stop from 50 to 58, and the sum, the least and the largest in two's complement
unfoldable pub report_words : ℕ → Report → List ℕ
report_words n r =
    n
    ∷ r.lines
    ∷ r.bad
    ∷ r.stops no_unit
    ∷ r.stops too_deep
    ∷ r.stops out_of_range
    ∷ r.stops zero_divisor
    ∷ r.stops cell_freed
    ∷ r.stops cells_full
    ∷ r.stops not_a_byte
    ∷ r.stops output_full
    ∷ r.stops zero_step
    ∷ of_z w64 r.sum
    ∷ of_z w64 r.least
    ∷ of_z w64 r.largest
    ∷ []

-- ---- the contracts

-- A place is one of the book: what is wrong in what is set under it is told at its end.
unfoldable pub book_place : ℕ → Place → ℕ
book_place long p = cond (eqb p.sheet 2) long p.at

-- `grumpy_shift_begin`: after 40 the state is as before, else it is a new one
pub data BeganC (edition : ℕ) (book table work : List ℕ) (allowance : ℕ)
    (state report table' work' state' report' : List ℕ) (n : ℕ) : Type 0 where
  begin_no_room : (length state < STATE) ⊎ (length report < BEGIN) → n ≡ refusal_number short_memory
      → table' ≡ table → work' ≡ work → state' ≡ state → report' ≡ report
      → BeganC edition book table work allowance state report table' work' state' report' n
  begin_told : {a : Answer} → STATE ≤ length state → BEGIN ≤ length report
      → Begin edition book table work allowance a table' work' → n ≡ admission_number a.told
      → Left state a.state state' (keeps_all (admission_meant a.told).told)
      → report' ≡ with_front report (n ∷ book_place (length book) (admission_meant a.told).place ∷ [])
      → BeganC edition book table work allowance state report table' work' state' report' n

-- `grumpy_shift_feed`: after a refusal the state is as before
pub data FedC (edition : ℕ) (book piece table work out : List ℕ)
    (state report table' work' out' state' report' : List ℕ) (n : ℕ) : Type 0 where
  feed_no_room : (length state < STATE) ⊎ (length report < FEED) → n ≡ refusal_number short_memory
      → table' ≡ table → work' ≡ work → out' ≡ out → state' ≡ state → report' ≡ report
      → FedC edition book piece table work out state report table' work' out' state' report' n
  feed_told : {a : Answer} → STATE ≤ length state → FEED ≤ length report
      → Feed edition book piece table work out (state_in state) a table' work' out'
      → n ≡ fed_number a.told a.state.over → Left state a.state state' (refuses a.told)
      → report' ≡ with_front report (n ∷ [])
      → FedC edition book piece table work out state report table' work' out' state' report' n

-- `grumpy_shift_finish`
pub data FinishedC (edition : ℕ) (state report report' : List ℕ) (n : ℕ) : Type 0 where
  finish_no_room : (length state < STATE) ⊎ (length report < FINISH) → n ≡ refusal_number short_memory
      → report' ≡ report → FinishedC edition state report report' n
  finish_told : {e : Ending} {sums : Sums} → STATE ≤ length state → FINISH ≤ length report
      → Finish edition (state_in state) e sums → n ≡ ending_number e
      → report' ≡ with_front report (report_words n (report_in sums))
      → FinishedC edition state report report' n
