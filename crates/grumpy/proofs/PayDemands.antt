-- What is asked of pay sheets (Req 10), as theorems about whatever meets the contracts of profile, check and run.
use mathlib.Core.List.{List}
use mathlib.Core.Logic.{◌↔◌}
use mathlib.Core.Path.{◌≡◌, refl, sym, ap, subst, ◌∙◌}
use Prim.Native.Nat.{ℕ, ◌≤◌}
use native.Mathlib.Omega.{arith}
use lib.ListN.{length, take}
use Rattle.language.specs.Sizes.{TABLE}
use Rattle.language.specs.Trees.{Ty}
use Rattle.language.specs.State.{Stop}
use Rattle.language.specs.Meaning.{type_number}
use Rattle.language.specs.Numbers.{Told, endless_node, many_units, passed, refused, stopped, number}
use Rattle.language.specs.Answers.{Check, Lent, Run, left}
use Rattle.language.specs.Profile.{ProfileReport, Profile}
use Rattle.language.specs.Pairs.{joined, Place}
use Rattle.language.specs.Writing.{Store}
use Rattle.language.specs.Edition.{text_in, pair_in, stored_in}
use Rattle.language.proofs.Answers.Demand1.{Listed, profiled_listed, profile_never_stops}
use Rattle.language.proofs.Answers.Editions.{text_in_lawful, pair_in_lawful}
use Rattle.language.proofs.Profiles.OneProfile.{one_profile, some_profile}
use Rattle.language.proofs.Profiles.TwoSheets.{pair_profile}
use Rattle.language.proofs.Profiles.PaySheets.{EndlessSheet, DearSheet, PaySheet, WithinCount, endless_exactly, dear_exactly, pay_exactly}
use Rattle.language.proofs.Profiles.PaySheets.{passed_exactly, within_count, pay_sheet_finishes}
use Rattle.language.proofs.Stored.Editions.{stored_in_lawful}
use Rattle.language.proofs.Stored.SameSheet.{sheet_stored}
use Rattle.pairs.specs.declared.Spot.{Spot}
use Rattle.grumpy.specs.Reports.{CheckedAt, ProfiledAt, RanAt, Written}
use Rattle.grumpy.specs.Reports.{checked_report, ran_report, wrote_report, profiled_report, pair_checked_report, pair_ran_report, pair_profiled_report}
use Rattle.grumpy.proofs.AnyOrigin.{check_lent}
use Rattle.grumpy.proofs.PairDemands.{PairListed}

-- Whatever is lent, what profile tells is a row of the table of numbers, at the place that the row sets, and memory is left as
-- it says; `Row` is that table for the origin that is meant, as of check (`AnyOrigin`).
pub record ProfileDemand1 {P : Type 0} (Row : Lent → Told → P → Type 0) (table : List ℕ) (report : ProfileReport P) (table' : List ℕ) : Type 0 where
  pub listed : Row (check_lent table) report.told report.place
  pub no_stop : (w : Stop) → report.told ≡ stopped w → ⊥
  pub table_left : table' ≡ left report.told TABLE table

module _ {edition : ℕ} {source table t' : List ℕ} (r : ProfiledAt ℕ) (a : Profile (text_in edition source) table (profiled_report r) t') where
  pub profile_demand_one : ProfileDemand1 (Listed edition source) table (profiled_report r) t'
  profile_demand_one =
      record { listed = profiled_listed edition source _ a.answer; no_stop = profile_never_stops a.answer; table_left = a.table_left }

  module _ (long : TABLE ≤ length table) where
    -- 43 at the first endless node of a sheet that passes, and nowhere else (R10.2)
    pub profile_endless_exactly : (x : ℕ) → (((profiled_report r).told ≡ refused endless_node) × ((profiled_report r).place ≡ x))
        ↔ EndlessSheet (text_in edition source) x
    profile_endless_exactly x = endless_exactly (text_in_lawful edition source) long a.answer x

    -- 45 for one without such a node that counts too many units (R10.4)
    pub profile_dear_exactly : ((profiled_report r).told ≡ refused many_units) ↔ DearSheet (text_in edition source)
    profile_dear_exactly = dear_exactly (text_in_lawful edition source) long a.answer

    -- else its type and its count (R10.3)
    pub profile_pay_exactly : (t : Ty) (n : ℕ)
        → (((profiled_report r).told ≡ passed) × ((profiled_report r).type ≡ type_number t) × ((profiled_report r).count ≡ n))
        ↔ PaySheet (text_in edition source) t n
    profile_pay_exactly t n = pay_exactly (text_in_lawful edition source) long a.answer t n

    -- R10.5: it passes exactly when check passes it, and neither 43 nor 45 describes it
    pub profile_passed_exactly : {u' : List ℕ} (c : CheckedAt ℕ) → Check (text_in edition source) table (checked_report c) u'
        → ((profiled_report r).told ≡ passed)
        ↔ (((checked_report c).told ≡ passed) × ((x : ℕ) → EndlessSheet (text_in edition source) x → ⊥) × (DearSheet (text_in edition source) → ⊥))
    profile_passed_exactly c b = passed_exactly (text_in_lawful edition source) long a.answer b.answer

  -- R10.6: whatever a run of it is lent, with an allowance of at least the count it uses no more and does not end in 50
  pub profile_finishes : {words work output : List ℕ} {allowance : ℕ} {words' work' output' : List ℕ} (q : RanAt ℕ) → (profiled_report r).told ≡ passed
      → Run (text_in edition source) words work output allowance (ran_report q) words' work' output' → (profiled_report r).count ≤ allowance
      → WithinCount (profiled_report r).count (ran_report q)
  profile_finishes q e b k = pay_sheet_finishes (text_in_lawful edition source) a e b k

-- ---- two sheets

module _ {edition : ℕ} {first second table t' : List ℕ} (r : ProfiledAt Spot)
    (a : Profile (pair_in edition first second) table (pair_profiled_report r) t') where
  -- a row of the joined text, told of the sheet on which its byte falls
  pub profile_pair_one : ProfileDemand1 (PairListed edition first second) table (pair_profiled_report r) t'
  profile_pair_one =
      let z = some_profile (text_in_lawful edition (joined first second)) table in
      let e = one_profile (pair_in_lawful edition first second) (pair_profile edition first second z.2) a in
      let listed = profiled_listed edition (joined first second) (check_lent table) z.2.answer in
      record {
        listed = subst (λ (q : ProfileReport Place). PairListed edition first second (check_lent table) q.told q.place) e.0
            record { byte = z.0.place; listed = listed; falls = refl };
        no_stop = profile_never_stops a.answer;
        table_left = a.table_left;
      }

  module _ (long : TABLE ≤ length table) where
    pub pair_endless_exactly : (x : Place) → (((pair_profiled_report r).told ≡ refused endless_node) × ((pair_profiled_report r).place ≡ x))
        ↔ EndlessSheet (pair_in edition first second) x
    pair_endless_exactly x = endless_exactly (pair_in_lawful edition first second) long a.answer x

    pub pair_dear_exactly : ((pair_profiled_report r).told ≡ refused many_units) ↔ DearSheet (pair_in edition first second)
    pair_dear_exactly = dear_exactly (pair_in_lawful edition first second) long a.answer

    pub pair_pay_exactly : (t : Ty) (n : ℕ)
        → (((pair_profiled_report r).told ≡ passed) × ((pair_profiled_report r).type ≡ type_number t) × ((pair_profiled_report r).count ≡ n))
        ↔ PaySheet (pair_in edition first second) t n
    pair_pay_exactly t n = pay_exactly (pair_in_lawful edition first second) long a.answer t n

    pub pair_passed_exactly : {u' : List ℕ} (c : CheckedAt Spot) → Check (pair_in edition first second) table (pair_checked_report c) u'
        → ((pair_profiled_report r).told ≡ passed)
        ↔ (((pair_checked_report c).told ≡ passed) × ((x : Place) → EndlessSheet (pair_in edition first second) x → ⊥)
        × (DearSheet (pair_in edition first second) → ⊥))
    pair_passed_exactly c b = passed_exactly (pair_in_lawful edition first second) long a.answer b.answer

pub profile_pair_finishes : {edition : ℕ} {first second table table' : List ℕ} {words work output : List ℕ} {allowance : ℕ}
    {words' work' output' : List ℕ} (r : ProfiledAt Spot) (q : RanAt Spot) → Profile (pair_in edition first second) table (pair_profiled_report r) table'
    → (pair_profiled_report r).told ≡ passed
    → Run (pair_in edition first second) words work output allowance (pair_ran_report q) words' work' output'
    → (pair_profiled_report r).count ≤ allowance → WithinCount (pair_profiled_report r).count (pair_ran_report q)
profile_pair_finishes {edition} {first} {second} r q a e b k = pay_sheet_finishes (pair_in_lawful edition first second) a e b k

-- ---- stored sheets

-- R10.6 of a sheet that was stored: whoever runs its stored form with an allowance of at least the count that the profile told of its
-- source uses no more and does not end in 50
pub profile_stored_finishes : {edition : ℕ} {source table table' room out room' out' : List ℕ} {words work output : List ℕ} {allowance : ℕ}
    {words' work' output' : List ℕ} (r : ProfiledAt ℕ) (s : Written) (q : RanAt ℕ) → Profile (text_in edition source) table (profiled_report r) table'
    → (profiled_report r).told ≡ passed → Store (text_in edition source) room out (wrote_report s) room' out' → (wrote_report s).told ≡ passed
    → Run (stored_in edition (take (wrote_report s).written out')) words work output allowance (ran_report q) words' work' output'
    → (profiled_report r).count ≤ allowance → WithinCount (profiled_report r).count (ran_report q)
profile_stored_finishes {edition} {source} r s q a e b f c k =
    let x = (sheet_stored b f).runs_back c.answer in
    let w = within_count (text_in_lawful edition source) a.answer e x.1 k in
    record { units = omega (arith, w.units, x.2.units); told = λ n. w.told (sym (ap number x.2.told) ∙ n) }

-- the same by the profile of the stored sheet itself, which no service tells: that of its own tokens
pub stored_finishes : {edition : ℕ} {input table table' : List ℕ} {words work output : List ℕ} {allowance : ℕ} {words' work' output' : List ℕ}
    {r : ProfileReport ℕ} (q : RanAt ℕ) → Profile (stored_in edition input) table r table' → r.told ≡ passed
    → Run (stored_in edition input) words work output allowance (ran_report q) words' work' output'
    → r.count ≤ allowance → WithinCount r.count (ran_report q)
stored_finishes {edition} {input} q a e b k = pay_sheet_finishes (stored_in_lawful edition input) a e b k
