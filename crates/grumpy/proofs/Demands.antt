-- The three demands on the box, in their own words, as theorems about whatever meets the contracts of check and run on a text; and
-- those on write. `AnyOrigin` has what they rest on, `PairDemands` and `StoredDemands` say them of two sheets and of a stored one.
use mathlib.Core.List.{List, ◌++◌}
use mathlib.Core.Logic.{◌↔◌}
use mathlib.Core.Path.{◌≡◌, ap, ◌∙◌}
use Prim.Native.Nat.{ℕ, ◌≤◌}
use lib.ListN.{length, take, drop}
use Rattle.language.specs.Sizes.{TABLE, WORK, ALLOWANCE}
use Rattle.language.specs.Tokens.{Token}
use Rattle.language.specs.Trees.{Ty, Program}
use Rattle.language.specs.State.{Stop}
use Rattle.language.specs.Meaning.{type_number}
use Rattle.language.specs.Numbers.{Refusal, no_reading, passed, refused, stopped, long_text}
use Rattle.language.specs.Answers.{Passes, left, Check, Run}
use Rattle.language.specs.Writing.{WriteReport, Write}
use Rattle.language.specs.Edition.{text_in}
use Rattle.language.proofs.Answers.Editions.{text_in_lawful}
use Rattle.language.proofs.Answers.Endings.{IsRun}
use Rattle.language.proofs.Answers.Demand1.{Listed, ran_listed, checked_listed, wrote_listed, write_never_stops, unwritten}
use Rattle.language.proofs.Answers.Demand3.{IsProgram, NoProgram}
use Rattle.language.proofs.Writing.OneWriting.{LongProgram, long_exactly}
use Rattle.language.proofs.Writing.SameSheet.{SameSheet, written_sheet}
use Rattle.grumpy.specs.Reports.{CheckedAt, RanAt, Written, checked_report, ran_report, wrote_report}
use Rattle.grumpy.proofs.AnyOrigin.{CheckDemand1, RunDemand1, check_listed, run_listed, RunDemand2, check_three, check_three_none}
use Rattle.grumpy.proofs.AnyOrigin.{run_two, run_three, run_three_none}

-- ---- demand 1

-- Whatever edition is named and whatever is lent, what check tells is a row of the table, at the place that the row sets, and memory is
-- left as it says.
pub check_demand_one : {edition : ℕ} {source table t' : List ℕ} (r : CheckedAt ℕ) → Check (text_in edition source) table (checked_report r) t'
    → CheckDemand1 (Listed edition source) table (checked_report r) t'
check_demand_one {edition} {source} r a = check_listed (Listed edition source) a (checked_listed edition source _ a.answer)

-- The same of run; and where nothing is run, nothing is printed and the output is as it was.
pub run_demand_one : {edition : ℕ} {source table work output : List ℕ} {allowance : ℕ} {t' w' o' : List ℕ} (r : RanAt ℕ)
    → Run (text_in edition source) table work output allowance (ran_report r) t' w' o'
    → RunDemand1 (Listed edition source) table work output allowance (ran_report r) t' w' o'
run_demand_one {edition} {source} r a = run_listed (Listed edition source) a (ran_listed edition source _ a.answer)

-- ---- demand 2

-- A sheet that passes, with memory and allowance in order, is answered exactly by the end of its meaning: value or stop and
-- its place, units and bytes printed.
pub demand_two : {edition : ℕ} {source table work output : List ℕ} {allowance : ℕ} {t' w' o' : List ℕ} {ts : List Token} {p : Program} {t : Ty}
    → TABLE ≤ length table → WORK ≤ length work → allowance ≤ ALLOWANCE → Passes (text_in edition source) ts p t → (r : RanAt ℕ)
    → Run (text_in edition source) table work output allowance (ran_report r) t' w' o'
    → RunDemand2 (text_in edition source) ts p t output allowance (ran_report r) o'
demand_two {edition} {source} long wide fair passes r a = run_two (text_in_lawful edition source) a long wide fair passes

-- ---- demand 3

-- Check passes with the type t exactly when the text, not too long, splits into tokens, the tokens have a reading and the
-- reading has the type t; it says "not a program" exactly when the text splits and no reading exists.
module _ {edition : ℕ} {source table t' : List ℕ} (long : TABLE ≤ length table) (r : CheckedAt ℕ)
    (a : Check (text_in edition source) table (checked_report r) t') where
  pub check_demand_three : (t : Ty) → (((checked_report r).told ≡ passed) × ((checked_report r).type ≡ type_number t)) ↔ IsProgram (text_in edition source) t
  check_demand_three t = check_three (text_in_lawful edition source) a long t

  pub check_demand_three_none : ((checked_report r).told ≡ refused no_reading) ↔ NoProgram (text_in edition source)
  check_demand_three_none = check_three_none (text_in_lawful edition source) a long

-- Run ends in a value or a stop with the type t exactly then, and says "not a program" exactly then.
module _ {edition : ℕ} {source table work output : List ℕ} {allowance : ℕ} {t' w' o' : List ℕ} (long : TABLE ≤ length table) (wide : WORK ≤ length work)
    (fair : allowance ≤ ALLOWANCE) (r : RanAt ℕ) (a : Run (text_in edition source) table work output allowance (ran_report r) t' w' o') where
  pub run_demand_three : (t : Ty) → (IsRun (ran_report r).told × ((ran_report r).type ≡ type_number t)) ↔ IsProgram (text_in edition source) t
  run_demand_three t = run_three (text_in_lawful edition source) a long wide fair t

  pub run_demand_three_none : ((ran_report r).told ≡ refused no_reading) ↔ NoProgram (text_in edition source)
  run_demand_three_none = run_three_none (text_in_lawful edition source) a long wide fair

-- ---- write (R03)

-- Whatever is lent, what write tells is a row of the table, at the place that the row sets, and memory is left as it says; and
-- where the sheet is refused, nothing is written.
pub record WriteDemand1 (edition : ℕ) (source table output : List ℕ) (report : WriteReport ℕ) (table' output' : List ℕ) : Type 0 where
  pub listed : Listed edition source record { table = length table; work = WORK; output = length output; allowance = 0 } report.told report.place
  pub no_stop : (w : Stop) → report.told ≡ stopped w → ⊥
  pub table_left : table' ≡ left report.told TABLE table
  pub unwritten : (y : Refusal) → report.told ≡ refused y → (report.written ≡ 0) × (output' ≡ output)

module _ {edition : ℕ} {source table output t' o' : List ℕ} (r : Written) (a : Write (text_in edition source) table output (wrote_report r) t' o') where
  pub write_demand_one : WriteDemand1 edition source table output (wrote_report r) t' o'
  write_demand_one = record {
    listed = wrote_listed edition source _ a.answer;
    no_stop = write_never_stops a.answer;
    table_left = a.table_left;
    unwritten = λ y e.
        let s = unwritten a.answer y e in
        (s.0, a.output_left ∙ ap (λ (bs : List ℕ). bs ++ drop (length bs) output) s.1);
  }

  -- it says 44 exactly when the sheet passes and its text is longer than the output or than a source may be
  pub write_long_exactly : TABLE ≤ length table → ((wrote_report r).told ≡ refused long_text) ↔ LongProgram (text_in edition source) (length output)
  write_long_exactly long = long_exactly (text_in_lawful edition source) long a.answer

  -- and what it has written is the same sheet
  pub write_same_sheet : (wrote_report r).told ≡ passed → SameSheet edition source (take (wrote_report r).written o')
  write_same_sheet e = written_sheet a e
