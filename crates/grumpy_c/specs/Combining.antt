-- Reports of a shift in words, read back, whatever the words are; and the contract of `grumpy_shift_combine`.
use Rattle.std.specs.Prelude.{Ok, Err}
use Rattle.std.specs.Prelude.{eqb, ltb, length, get_or, true, false, cond, List, [], ◌∷◌, ◌⊎◌, ◌≡◌, ℕ, ◌≤◌, ◌<◌}
use Rattle.std.specs.Int.{w64}
use Rattle.std.proofs.Common.{to_z}
use Rattle.language.specs.Combining.{Ending, combined}
use Rattle.language.specs.Numbers.{short_memory, refusal_number}
use Rattle.numbers.specs.declared.Refusal.{Refusal}
use Rattle.tally.specs.declared.sums.Sums.{Sums}
use Rattle.shift.specs.Combining.{told_in}
use Rattle.shift.specs.declared.Finished.{Finished}
use Rattle.shift.specs.Meanings as Code
use Rattle.grumpy_c.specs.Words.{with_front, count_in, nine_counts}
use Rattle.grumpy_c.specs.Shifts.{FINISH, told_number, report_words}

-- a count; a larger one than fits is more than a shift can come to, as is what it is read as
abbrev pub capped : ℕ → ℕ
capped = count_in 4294967295

-- the numbers that a report has are 0, 42 and 46; any other is read as 46
unfoldable pub ending_in : ℕ → Code.Ending
ending_in n =
    cond (eqb n 0) (Ok false)
    (cond (eqb n 42) (Err Refusal.NoEdition) (Ok true))

abbrev pub nine_in : List ℕ → List ℕ
nine_in w = nine_counts 4294967295 w 3

-- how many were paid is not in the words, and nothing depends on it
abbrev pub counts_in : List ℕ → Sums
counts_in w = record {
  lines = capped (get_or w 1 0);
  bad = capped (get_or w 2 0);
  stops = nine_in w;
  paid = 0;
  sum = to_z w64 (get_or w 12 0);
  least = to_z w64 (get_or w 13 0);
  largest = to_z w64 (get_or w 14 0);
}

unfoldable pub finished_in : List ℕ → Finished
finished_in w = record { told = ending_in (get_or w 0 0); sums = counts_in w }

-- what is told of both together
abbrev pub told_of_both : List ℕ → List ℕ → Ending
told_of_both first second = combined (told_in (finished_in first)) (told_in (finished_in second))

-- `grumpy_shift_combine`
pub data CombinedC (first second report report' : List ℕ) (n : ℕ) : Type 0 where
  combine_no_room : (length first < FINISH) ⊎ ((length second < FINISH) ⊎ (length report < FINISH))
      → n ≡ refusal_number short_memory → report' ≡ report → CombinedC first second report report' n
  combine_told : FINISH ≤ length first → FINISH ≤ length second → FINISH ≤ length report
      → n ≡ told_number (told_of_both first second).told
      → report' ≡ with_front report (report_words n (told_of_both first second).report)
      → CombinedC first second report report' n
