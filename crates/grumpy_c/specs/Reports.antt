-- What the C interface writes into a report, and its contracts over those of the services.
use Rattle.std.specs.Prelude.{List, ◌≡◌, ℕ, ◌≤◌, ◌<◌, length, set}
use Rattle.std.specs.Int.{w64}
use Rattle.std.proofs.Common.{of_z}
use Rattle.language.specs.Meaning.{value_number}
use Rattle.language.specs.Numbers.{short_memory, refusal_number, number}
use Rattle.language.specs.Answers.{Origin, CheckReport, Check, RunReport, Run}
use Rattle.language.specs.Writing.{WriteReport}
use Rattle.grumpy.specs.Reports.{CheckedAt, RanAt, Written, checked_report, ran_report, wrote_report}

-- the first three words; the first six
unfoldable pub three : List ℕ → ℕ → ℕ → ℕ → List ℕ
three w n i t = set (set (set w 0 n) 1 i) 2 t

unfoldable pub six : List ℕ → ℕ → ℕ → ℕ → ℕ → ℕ → ℕ → List ℕ
six w n i t v u p = set (set (set (three w n i t) 3 v) 4 u) 5 p

-- a report in words, the number of what is told first; the value in two's complement, a float by its bits (R08.7)
abbrev pub check_words : List ℕ → CheckReport ℕ → List ℕ
check_words w r = three w (number r.told) r.place r.type

abbrev pub run_words : List ℕ → RunReport ℕ → List ℕ
run_words w r =
    six w (number r.told) r.place r.type (of_z w64 (value_number r.value)) r.units r.printed

abbrev pub write_words : List ℕ → WriteReport ℕ → List ℕ
write_words w r = three w (number r.told) r.place r.written

-- an answer, told in words and by its number
abbrev pub ToldChecked : CheckedAt ℕ → List ℕ → List ℕ → ℕ → Type 0
ToldChecked a w w' n = (n ≡ number (checked_report a).told) × (w' ≡ check_words w (checked_report a))

abbrev pub ToldRan : RanAt ℕ → List ℕ → List ℕ → ℕ → Type 0
ToldRan a w w' n = (n ≡ number (ran_report a).told) × (w' ≡ run_words w (ran_report a))

abbrev pub ToldWrote : Written → List ℕ → List ℕ → ℕ → Type 0
ToldWrote a w w' n = (n ≡ number (wrote_report a).told) × (w' ≡ write_words w (wrote_report a))

-- The contract of `grumpy_check` and `grumpy_check_stored`, for what the tokens come from: where the report is long
-- enough, the contract of check, told in words. The places of a stored sheet are lines.
pub data CheckedC (o : Origin ℕ) (table report table' report' : List ℕ) (n : ℕ) : Type 0 where
  check_no_report : length report < 3 → n ≡ refusal_number short_memory → table' ≡ table → report' ≡ report
      → CheckedC o table report table' report' n
  check_reported : {r : CheckReport ℕ} → 3 ≤ length report → Check o table r table' → n ≡ number r.told
      → report' ≡ check_words report r → CheckedC o table report table' report' n

-- The contract of `grumpy_run` and `grumpy_run_stored`.
pub data RanC (o : Origin ℕ) (table work out : List ℕ) (allowance : ℕ)
    (report table' work' out' report' : List ℕ) (n : ℕ) : Type 0 where
  run_no_report : length report < 6 → n ≡ refusal_number short_memory → table' ≡ table → work' ≡ work → out' ≡ out
      → report' ≡ report
      → RanC o table work out allowance report table' work' out' report' n
  run_reported : {r : RunReport ℕ} → 6 ≤ length report → Run o table work out allowance r table' work' out'
      → n ≡ number r.told
      → report' ≡ run_words report r → RanC o table work out allowance report table' work' out' report' n

-- what write and store promise: a report, the table and the output as they are left
abbrev pub Writing : Type 1
Writing = List ℕ → List ℕ → WriteReport ℕ → List ℕ → List ℕ → Type 0

-- The contract of `grumpy_write` and `grumpy_store`, for what each promises.
pub data WroteC (Writes : Writing) (table out report table' out' report' : List ℕ) (n : ℕ) : Type 0 where
  write_no_report : length report < 3 → n ≡ refusal_number short_memory → table' ≡ table → out' ≡ out → report' ≡ report
      → WroteC Writes table out report table' out' report' n
  write_reported : {r : WriteReport ℕ} → 3 ≤ length report → Writes table out r table' out' → n ≡ number r.told
      → report' ≡ write_words report r → WroteC Writes table out report table' out' report' n
