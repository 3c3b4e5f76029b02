-- What is kept of the lines so far, as the numbers of the written report of what they came to (R14.6); and what the
-- code's outcomes and jobs mean.
use Rattle.std.specs.Prelude as Prelude
use Rattle.std.specs.Prelude.{length, get_or, List, ◌≡◌, ℕ, ◌-◌, Some, None}
use Rattle.std.proofs.Math.Option.{Option, none, some}
use Rattle.language.specs.Numbers.{stop_number}
use Rattle.language.specs.State as State
use Rattle.language.specs.Shift as Shift
use Rattle.language.specs.Shift.{tally, is_bad, is_stop, pays, total, chosen, lesser, greater, Report}
use Rattle.numbers.specs.Meanings.{stop_meant}
use Rattle.tally.specs.declared.lines.Job.{Job}
use Rattle.tally.specs.declared.sums.Sums.{Sums}
use Rattle.tally.specs.declared.sums.Outcome.{Outcome}

-- what the code's job is
abbrev pub job_meant : Prelude.Option Job → Option Shift.Job
job_meant (Some j) = some record { picks = j.picks; rate = j.rate }
job_meant None = none

-- what the code's outcome is
abbrev pub outcome_meant : Outcome → Shift.Outcome
outcome_meant Outcome.Bad = Shift.bad
outcome_meant (Outcome.Stopped w) = Shift.stopped (stop_meant w)
outcome_meant (Outcome.Paid z) = Shift.paid z

-- where the lines of a written stop are counted
abbrev pub stop_at : State.Stop → ℕ
stop_at w = stop_number w - 50

abbrev pub report_in : Sums → Report
report_in s = record {
  lines = s.lines;
  bad = s.bad;
  stops = λ w. get_or s.stops (stop_at w) 0;
  sum = s.sum;
  least = s.least;
  largest = s.largest;
}

-- the numbers s are those of these outcomes
pub record Stands (os : List Shift.Outcome) (s : Sums) : Type 0 where
  pub lines : s.lines ≡ length os
  pub bad : s.bad ≡ tally is_bad os
  pub nine : length s.stops ≡ 9
  pub stops : (w : State.Stop) → get_or s.stops (stop_at w) 0 ≡ tally (is_stop w) os
  pub paid : s.paid ≡ length (pays os)
  pub sum : s.sum ≡ total (pays os)
  pub least : s.least ≡ chosen lesser (pays os)
  pub largest : s.largest ≡ chosen greater (pays os)
