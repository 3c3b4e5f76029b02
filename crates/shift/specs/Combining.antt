-- What is told of two parts of a shift together, whatever is handed over as their reports.
use Rattle.std.specs.Prelude.{Ok, Err}
use Rattle.std.specs.Prelude.{length, ◌≡◌}
use Rattle.std.proofs.Math.Option.{Option, some}
use Rattle.language.specs.Combining.{paid_lines, combined, together}
use Rattle.language.specs.Combining as Combining
use Rattle.language.specs.Shift.{ShiftRefusal, sheet}
use Rattle.numbers.specs.Meanings.{refusal_meant}
use Rattle.tally.specs.Stands.{report_in}
use Rattle.tally.specs.declared.sums.Sums.{Sums}
use Rattle.shift.specs.Meanings.{Ending}
use Rattle.shift.specs.declared.Finished.{Finished}
use Rattle.shift.specs.Meanings.{over_told}

abbrev pub ending_meant : Ending → Option ShiftRefusal
ending_meant (Ok over) = over_told over
ending_meant (Err y) = some (sheet (refusal_meant y))

-- what the code tells in the end
abbrev pub told_in : Finished → Combining.Ending
told_in f = record { told = ending_meant f.told; report = report_in f.sums }

-- it tells this; how many were paid, which a report does not have, is the number that follows from it, and there are no
-- more counts than the nine of the stops
pub record Tells (r : Finished) (e : Combining.Ending) : Type 0 where
  pub tells : told_in r ≡ e
  pub paid : r.sums.paid ≡ paid_lines (report_in r.sums)
  pub nine : length r.sums.stops ≡ 9

abbrev pub Together : Sums → Sums → Finished → Type 0
Together a b r = Tells r (together (report_in a) (report_in b))

abbrev pub Combine : Finished → Finished → Finished → Type 0
Combine first second r = Tells r (combined (told_in first) (told_in second))
