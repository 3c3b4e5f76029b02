-- The demands on the box, for two sheets: theorems about whatever meets the contracts of `check_pair` and `run_pair`, as `Demands` and
-- `HeadOffice` have them for a text. A shift is paid by `run_pair` (R14).
use mathlib.Core.List.{List}
use mathlib.Core.Logic.{◌↔◌}
use mathlib.Core.Path.{◌≡◌, refl, subst}
use Prim.Native.Nat.{ℕ, ◌≤◌}
use lib.ListN.{length}
use Rattle.language.specs.Sizes.{TABLE, WORK, ALLOWANCE}
use Rattle.language.specs.Tokens.{Token}
use Rattle.language.specs.Trees.{Ty, Program}
use Rattle.language.specs.Meaning.{type_number}
use Rattle.language.specs.Numbers.{Told, no_reading, passed, refused, number}
use Rattle.language.specs.Answers as Answers
use Rattle.language.specs.Answers.{Passes, CheckReport, Check, Lent, RunReport, Run}
use Rattle.language.specs.Pairs.{joined, Place}
use Rattle.language.specs.Edition.{pair_in}
use Rattle.language.proofs.Answers.Editions.{text_in_lawful, pair_in_lawful}
use Rattle.language.proofs.Answers.Endings.{IsRun}
use Rattle.language.proofs.Answers.Demand1.{Listed, ran_listed, checked_listed}
use Rattle.language.proofs.Answers.Demand3.{IsProgram, NoProgram}
use Rattle.language.proofs.Answers.HeadOffice.{Sound}
use Rattle.language.proofs.Answers.OneAnswer.{one_checked, some_checked, one_ran, some_ran}
use Rattle.language.proofs.Answers.Pairs.{moved, check_joined, run_joined}
use Rattle.pairs.specs.declared.Spot.{Spot}
use Rattle.grumpy.specs.Reports.{CheckedAt, RanAt, pair_checked_report, pair_ran_report}
use Rattle.grumpy.proofs.Apart.{same_pair_ran}
use Rattle.grumpy.proofs.AnyOrigin as AnyOrigin
use Rattle.grumpy.proofs.AnyOrigin.{CheckDemand1, RunDemand1, check_listed, run_listed, RunDemand2, check_three, check_three_none}
use Rattle.grumpy.proofs.AnyOrigin.{run_two, run_three, run_three_none}

-- ---- the table of numbers

-- a row of the joined text, told of the sheet on which its byte falls, with the line there (R07)
pub record PairListed (edition : ℕ) (first second : List ℕ) (l : Lent) (told : Told) (place : Place) : Type 0 where
  pub byte : ℕ
  pub listed : Listed edition (joined first second) l told byte
  pub falls : place ≡ moved first second told byte

module _ (edition : ℕ) (first second : List ℕ) (l : Lent) where
  pair_checked_listed : {c : CheckReport Place} → Answers.Checked (pair_in edition first second) l.table c
      → PairListed edition first second l c.told c.place
  pair_checked_listed a =
      let z = some_checked (text_in_lawful edition (joined first second)) l.table in
      let e = one_checked (pair_in_lawful edition first second) l.table (check_joined edition first second z.1) a in
      subst (λ (c : CheckReport Place). PairListed edition first second l c.told c.place) e
      record { byte = z.0.place; listed = checked_listed edition (joined first second) l z.1; falls = refl }

  pair_ran_listed : {r : RunReport Place} {bs : List ℕ} → Answers.Ran (pair_in edition first second) l r bs
      → PairListed edition first second l r.told r.place
  pair_ran_listed a =
      let z = some_ran (text_in_lawful edition (joined first second)) l in
      let e = one_ran (pair_in_lawful edition first second) l (run_joined edition first second z.2) a in
      subst (λ (r : RunReport Place). PairListed edition first second l r.told r.place) e.0
      record { byte = z.0.place; listed = ran_listed edition (joined first second) l z.2; falls = refl }

-- ---- check

module _ {edition : ℕ} {first second table t' : List ℕ} (r : CheckedAt Spot) (a : Check (pair_in edition first second) table (pair_checked_report r) t') where
  -- Whatever is lent, what is told is a row of the table, at the place that the row sets, and memory is left as it says.
  pub check_pair_one : CheckDemand1 (PairListed edition first second) table (pair_checked_report r) t'
  check_pair_one = check_listed (PairListed edition first second) a (pair_checked_listed edition first second _ a.answer)

  -- it passes with the type t exactly where the two are a program of that type, and is no program exactly where they have no reading
  pub check_pair_three : TABLE ≤ length table → (t : Ty)
      → (((pair_checked_report r).told ≡ passed) × ((pair_checked_report r).type ≡ type_number t)) ↔ IsProgram (pair_in edition first second) t
  check_pair_three long t = check_three (pair_in_lawful edition first second) a long t

  pub check_pair_none : TABLE ≤ length table → ((pair_checked_report r).told ≡ refused no_reading) ↔ NoProgram (pair_in edition first second)
  check_pair_none long = check_three_none (pair_in_lawful edition first second) a long

  -- two sheets that passed run to a value of their type or to a listed stop (R11.2)
  pub pair_sound : (pair_checked_report r).told ≡ passed → Sound (pair_in edition first second) (pair_checked_report r)
  pair_sound e = AnyOrigin.sound (pair_in_lawful edition first second) a e

-- ---- run

module _ {edition : ℕ} {first second table work output : List ℕ} {allowance : ℕ} {t' w' o' : List ℕ} (r : RanAt Spot)
    (a : Run (pair_in edition first second) table work output allowance (pair_ran_report r) t' w' o') where
  -- the same; and where nothing is run, nothing is printed and the output is as it was
  pub run_pair_one : RunDemand1 (PairListed edition first second) table work output allowance (pair_ran_report r) t' w' o'
  run_pair_one = run_listed (PairListed edition first second) a (pair_ran_listed edition first second _ a.answer)

  module _ (long : TABLE ≤ length table) (wide : WORK ≤ length work) (fair : allowance ≤ ALLOWANCE) where
    -- two sheets that pass are answered by the end of their meaning
    pub run_pair_two : {ts : List Token} {p : Program} {t : Ty} → Passes (pair_in edition first second) ts p t
        → RunDemand2 (pair_in edition first second) ts p t output allowance (pair_ran_report r) o'
    run_pair_two passes = run_two (pair_in_lawful edition first second) a long wide fair passes

    -- it ends in a value or a stop with the type t exactly where the two are a program of that type
    pub run_pair_three : (t : Ty) → (IsRun (pair_ran_report r).told × ((pair_ran_report r).type ≡ type_number t)) ↔ IsProgram (pair_in edition first second) t
    run_pair_three t = run_three (pair_in_lawful edition first second) a long wide fair t

    pub run_pair_none : ((pair_ran_report r).told ≡ refused no_reading) ↔ NoProgram (pair_in edition first second)
    run_pair_none = run_three_none (pair_in_lawful edition first second) a long wide fair

-- more units change nothing but the end in 50 (R11.3)
pub pair_more_units : {edition : ℕ} {first second table work output : List ℕ} {few many : ℕ} {t' w' o' t'' w'' o'' : List ℕ} (r q : RanAt Spot)
    → few ≤ many → many ≤ ALLOWANCE → Run (pair_in edition first second) table work output few (pair_ran_report r) t' w' o'
    → Run (pair_in edition first second) table work output many (pair_ran_report q) t'' w'' o'' → (number (pair_ran_report r).told ≡ 50 → ⊥)
    → (r ≡ q) × (o' ≡ o'') × (t' ≡ t'') × (w' ≡ w'')
pair_more_units {edition} {first} {second} r q h k a b n =
    let e = AnyOrigin.more_units (pair_in_lawful edition first second) a h k b n in
    (same_pair_ran r q e.0, e.1, e.2, e.3)
