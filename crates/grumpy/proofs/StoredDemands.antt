-- The demands on the box, for stored sheets: theorems about whatever meets the contracts of `check_stored` and `run_stored` (R09.6 to
-- R09.9), as `Demands` and `HeadOffice` have them for a text.
use mathlib.Core.List.{List}
use mathlib.Core.Logic.{◌↔◌}
use mathlib.Core.Path.{◌≡◌}
use Prim.Native.Nat.{ℕ, ◌≤◌}
use lib.ListN.{length}
use Rattle.language.specs.Sizes.{TABLE, WORK, ALLOWANCE}
use Rattle.language.specs.Tokens.{Token}
use Rattle.language.specs.Trees.{Ty, Program}
use Rattle.language.specs.Meaning.{type_number}
use Rattle.language.specs.Numbers.{no_reading, passed, refused, number}
use Rattle.language.specs.Answers.{Passes, Check, Run}
use Rattle.language.specs.Edition.{stored_in}
use Rattle.language.proofs.Answers.Endings.{IsRun}
use Rattle.language.proofs.Answers.Demand3.{IsProgram, NoProgram}
use Rattle.language.proofs.Answers.HeadOffice.{Sound}
use Rattle.language.proofs.Stored.Editions.{stored_in_lawful}
use Rattle.language.proofs.Stored.Listed.{StoredListed, stored_checked_listed, stored_ran_listed}
use Rattle.grumpy.specs.Reports.{CheckedAt, RanAt, checked_report, ran_report}
use Rattle.grumpy.proofs.Apart.{same_ran}
use Rattle.grumpy.proofs.AnyOrigin as AnyOrigin
use Rattle.grumpy.proofs.AnyOrigin.{CheckDemand1, RunDemand1, check_listed, run_listed, RunDemand2, check_three, check_three_none}
use Rattle.grumpy.proofs.AnyOrigin.{run_two, run_three, run_three_none}

-- ---- check

module _ {edition : ℕ} {input table t' : List ℕ} (r : CheckedAt ℕ) (a : Check (stored_in edition input) table (checked_report r) t') where
  -- Whatever bytes are lent, what is told is a row of the table, at the line that the row sets, and memory is left as it says.
  pub check_stored_one : CheckDemand1 (StoredListed edition input) table (checked_report r) t'
  check_stored_one = check_listed (StoredListed edition input) a (stored_checked_listed edition input _ a.answer)

  -- it passes with the type t exactly where the stored sheet is a program of that type, and is no program exactly where it has no reading
  pub check_stored_three : TABLE ≤ length table → (t : Ty)
      → (((checked_report r).told ≡ passed) × ((checked_report r).type ≡ type_number t)) ↔ IsProgram (stored_in edition input) t
  check_stored_three long t = check_three (stored_in_lawful edition input) a long t

  pub check_stored_none : TABLE ≤ length table → ((checked_report r).told ≡ refused no_reading) ↔ NoProgram (stored_in edition input)
  check_stored_none long = check_three_none (stored_in_lawful edition input) a long

  -- a stored sheet that passed runs to a value of its type or to a listed stop (R11.2)
  pub stored_sound : (checked_report r).told ≡ passed → Sound (stored_in edition input) (checked_report r)
  stored_sound e = AnyOrigin.sound (stored_in_lawful edition input) a e

-- ---- run

module _ {edition : ℕ} {input table work output : List ℕ} {allowance : ℕ} {t' w' o' : List ℕ} (r : RanAt ℕ)
    (a : Run (stored_in edition input) table work output allowance (ran_report r) t' w' o') where
  -- the same; and where nothing is run, nothing is printed and the output is as it was
  pub run_stored_one : RunDemand1 (StoredListed edition input) table work output allowance (ran_report r) t' w' o'
  run_stored_one = run_listed (StoredListed edition input) a (stored_ran_listed edition input _ a.answer)

  module _ (long : TABLE ≤ length table) (wide : WORK ≤ length work) (fair : allowance ≤ ALLOWANCE) where
    -- a stored sheet that passes is answered by the end of its meaning
    pub run_stored_two : {ts : List Token} {p : Program} {t : Ty} → Passes (stored_in edition input) ts p t
        → RunDemand2 (stored_in edition input) ts p t output allowance (ran_report r) o'
    run_stored_two passes = run_two (stored_in_lawful edition input) a long wide fair passes

    -- it ends in a value or a stop with the type t exactly where the stored sheet is a program of that type
    pub run_stored_three : (t : Ty) → (IsRun (ran_report r).told × ((ran_report r).type ≡ type_number t)) ↔ IsProgram (stored_in edition input) t
    run_stored_three t = run_three (stored_in_lawful edition input) a long wide fair t

    pub run_stored_none : ((ran_report r).told ≡ refused no_reading) ↔ NoProgram (stored_in edition input)
    run_stored_none = run_three_none (stored_in_lawful edition input) a long wide fair

-- more units change nothing but the end in 50 (R11.3)
pub stored_more_units : {edition : ℕ} {input table work output : List ℕ} {few many : ℕ} {t' w' o' t'' w'' o'' : List ℕ} (r q : RanAt ℕ)
    → few ≤ many → many ≤ ALLOWANCE → Run (stored_in edition input) table work output few (ran_report r) t' w' o'
    → Run (stored_in edition input) table work output many (ran_report q) t'' w'' o'' → (number (ran_report r).told ≡ 50 → ⊥)
    → (r ≡ q) × (o' ≡ o'') × (t' ≡ t'') × (w' ≡ w'')
stored_more_units {edition} {input} r q h k a b n =
    let e = AnyOrigin.more_units (stored_in_lawful edition input) a h k b n in
    (same_ran r q e.0, e.1, e.2, e.3)
