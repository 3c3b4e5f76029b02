-- What the C interface writes into a report of two sheets, and its contracts over those of check and run for a pair.
use Rattle.std.specs.Prelude.{List, ◌≡◌, ℕ, ◌+◌, ◌≤◌, ◌<◌, length, set}
use Rattle.std.specs.Int.{w64}
use Rattle.std.proofs.Common.{of_z}
use Rattle.language.specs.Meaning.{value_number}
use Rattle.language.specs.Numbers.{short_memory, refusal_number, number}
use Rattle.language.specs.Answers.{CheckReport, Check, RunReport, Run}
use Rattle.language.specs.Edition.{pair_in}
use Rattle.language.specs.Pairs.{Place}
use Rattle.pairs.specs.declared.Spot.{Spot}
use Rattle.grumpy.specs.Reports.{CheckedAt, RanAt, pair_checked_report, pair_ran_report}
use Rattle.grumpy_c.specs.Reports.{three, six}

-- from word k on the sheet, and where the part that is shown begins and ends in it
unfoldable pub spot_words : List ℕ → ℕ → Place → List ℕ
spot_words w k x = set (set (set w k x.sheet) (k + 1) x.begins) (k + 2) x.ends

-- a report in words: as that of one sheet, the place counted in its own sheet, and then the spot
abbrev pub pair_check_words : List ℕ → CheckReport Place → List ℕ
pair_check_words w r = spot_words (three w (number r.told) r.place.at r.type) 3 r.place

abbrev pub pair_run_words : List ℕ → RunReport Place → List ℕ
pair_run_words w r =
    spot_words
    (six w (number r.told) r.place.at r.type (of_z w64 (value_number r.value)) r.units r.printed) 6
    r.place

abbrev pub ToldPairChecked : CheckedAt Spot → List ℕ → List ℕ → ℕ → Type 0
ToldPairChecked a w w' n =
    (n ≡ number (pair_checked_report a).told) × (w' ≡ pair_check_words w (pair_checked_report a))

abbrev pub ToldPairRan : RanAt Spot → List ℕ → List ℕ → ℕ → Type 0
ToldPairRan a w w' n = (n ≡ number (pair_ran_report a).told) × (w' ≡ pair_run_words w (pair_ran_report a))

-- The contract of `grumpy_check_pair`: where the report is long enough, the contract of check for a pair, in words.
pub data PairCheckedC (edition : ℕ) (first second table report table' report' : List ℕ) (n : ℕ) : Type 0 where
  check_no_report : length report < 6 → n ≡ refusal_number short_memory → table' ≡ table → report' ≡ report
      → PairCheckedC edition first second table report table' report' n
  check_reported : {r : CheckReport Place} → 6 ≤ length report → Check (pair_in edition first second) table r table'
      → n ≡ number r.told → report' ≡ pair_check_words report r
      → PairCheckedC edition first second table report table' report' n

-- The contract of `grumpy_run_pair`.
pub data PairRanC (edition : ℕ) (first second table work out : List ℕ) (allowance : ℕ)
    (report table' work' out' report' : List ℕ) (n : ℕ) : Type 0 where
  run_no_report : length report < 9 → n ≡ refusal_number short_memory → table' ≡ table → work' ≡ work → out' ≡ out
      → report' ≡ report
      → PairRanC edition first second table work out allowance report table' work' out' report' n
  run_reported : {r : RunReport Place} → 9 ≤ length report
      → Run (pair_in edition first second) table work out allowance r table' work' out' → n ≡ number r.told
      → report' ≡ pair_run_words report r
      → PairRanC edition first second table work out allowance report table' work' out' report' n
