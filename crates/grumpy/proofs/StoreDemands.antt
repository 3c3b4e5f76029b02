-- The demands on store, as theorems about whatever meets its contract (R09.5, R09.9).
use mathlib.Core.List.{List}
use mathlib.Core.Logic.{◌↔◌}
use mathlib.Core.Path.{◌≡◌}
use Prim.Native.Nat.{ℕ, ◌≤◌}
use Rattle.std.proofs.Common.{Ok, Err}
use native.Mathlib.Omega.{arith}
use lib.ListN.{length, take}
use Rattle.language.specs.Sizes.{TABLE, WORK}
use Rattle.language.specs.State.{Stop}
use Rattle.language.specs.Numbers.{Refusal, passed, refused, stopped, long_text}
use Rattle.language.specs.Answers.{left}
use Rattle.language.specs.Writing.{WriteReport, Store}
use Rattle.language.specs.Edition.{text_in}
use Rattle.language.proofs.Answers.Editions.{text_in_lawful}
use Rattle.language.proofs.Stored.Listed.{StoreListed, stores_listed}
use Rattle.language.proofs.Stored.OneStoring.{unstored, LongForm, form_long_exactly}
use Rattle.language.proofs.Stored.SameSheet.{StoredSheet, sheet_stored}
use Rattle.grumpy.specs.Reports.{Written, wrote_report}

-- Whatever is lent, what store tells is a row of the table, at the place that the row sets, and memory is left as it says; and
-- where the sheet is refused, nothing is written.
pub record StoreDemand1 (edition : ℕ) (source table output : List ℕ) (report : WriteReport ℕ) (table' output' : List ℕ) : Type 0 where
  pub listed : StoreListed edition source record { table = length table; work = WORK; output = length output; allowance = 0 } report.told report.place
  pub no_stop : (w : Stop) → report.told ≡ stopped w → ⊥
  pub table_left : table' ≡ left report.told TABLE table
  pub unwritten : (y : Refusal) → report.told ≡ refused y → (report.written ≡ 0) × (output' ≡ output)

-- its answers have none
never_stops : (r : Written) (w : Stop) → (wrote_report r).told ≡ stopped w → ⊥
never_stops (Ok n) w e = let z : ◌≡◌ {A = ℕ} 0 1 = cc in omega arith
never_stops (Err x) w e = let z : ◌≡◌ {A = ℕ} 0 1 = cc in omega arith

module _ {edition : ℕ} {source table output t' o' : List ℕ} (r : Written) (a : Store (text_in edition source) table output (wrote_report r) t' o') where
  pub store_demand_one : StoreDemand1 edition source table output (wrote_report r) t' o'
  store_demand_one = record {
    listed = stores_listed edition source _ a.answer;
    no_stop = never_stops r;
    table_left = a.table_left;
    unwritten = unstored a;
  }

  -- it says 44 exactly when the sheet passes and its stored form is longer than the output
  pub store_long_exactly : TABLE ≤ length table → ((wrote_report r).told ≡ refused long_text) ↔ LongForm (text_in edition source) (length output)
  store_long_exactly long = form_long_exactly (text_in_lawful edition source) long a.answer

  -- and what it has written is checked and run as the sheet is, places aside
  pub store_same_sheet : (wrote_report r).told ≡ passed → StoredSheet edition source (take (wrote_report r).written o')
  store_same_sheet e = sheet_stored a e
