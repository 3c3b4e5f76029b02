-- The contracts determine the answers: no two answers of check, of run, of write, of store or of profile, and no two memories or
-- outputs, meet them for the same input.
use mathlib.Core.List.{List}
use mathlib.Core.Path.{◌≡◌}
use Prim.Native.Nat.{ℕ}
use Rattle.language.specs.Answers.{Check, Run}
use Rattle.language.specs.Writing.{Write, Store}
use Rattle.language.specs.Profile.{Profile}
use Rattle.language.specs.Edition.{text_in, stored_in}
use Rattle.language.proofs.Answers.Editions.{text_in_lawful}
use Rattle.language.proofs.Answers.OneAnswer.{one_check, one_run}
use Rattle.language.proofs.Writing.OneWriting.{one_write}
use Rattle.language.proofs.Stored.Editions.{stored_in_lawful}
use Rattle.language.proofs.Stored.OneStoring.{one_store}
use Rattle.language.proofs.Profiles.OneProfile.{one_profile}
use Rattle.grumpy.specs.Reports.{CheckedAt, ProfiledAt, RanAt, Written, checked_report, ran_report, wrote_report, profiled_report}
use Rattle.grumpy.proofs.Apart.{same_checked, same_profiled, same_ran, same_wrote}

pub check_determined : {edition : ℕ} {source table t' u' : List ℕ} (r q : CheckedAt ℕ) → Check (text_in edition source) table (checked_report r) t'
    → Check (text_in edition source) table (checked_report q) u' → (r ≡ q) × (t' ≡ u')
check_determined {edition} {source} r q a b =
    let e = one_check (text_in_lawful edition source) a b in
    (same_checked r q e.0, e.1)

pub run_determined : {edition : ℕ} {source table work output : List ℕ} {allowance : ℕ} {t' w' o' t'' w'' o'' : List ℕ} (r q : RanAt ℕ)
    → Run (text_in edition source) table work output allowance (ran_report r) t' w' o'
    → Run (text_in edition source) table work output allowance (ran_report q) t'' w'' o'' → (r ≡ q) × (t' ≡ t'') × (w' ≡ w'') × (o' ≡ o'')
run_determined {edition} {source} r q a b =
    let e = one_run (text_in_lawful edition source) a b in
    (same_ran r q e.0, e.1, e.2, e.3)

-- of a stored sheet
pub check_stored_determined : {edition : ℕ} {input table t' u' : List ℕ} (r q : CheckedAt ℕ) → Check (stored_in edition input) table (checked_report r) t'
    → Check (stored_in edition input) table (checked_report q) u' → (r ≡ q) × (t' ≡ u')
check_stored_determined {edition} {input} r q a b =
    let e = one_check (stored_in_lawful edition input) a b in
    (same_checked r q e.0, e.1)

pub run_stored_determined : {edition : ℕ} {input table work output : List ℕ} {allowance : ℕ} {t' w' o' t'' w'' o'' : List ℕ} (r q : RanAt ℕ)
    → Run (stored_in edition input) table work output allowance (ran_report r) t' w' o'
    → Run (stored_in edition input) table work output allowance (ran_report q) t'' w'' o'' → (r ≡ q) × (t' ≡ t'') × (w' ≡ w'') × (o' ≡ o'')
run_stored_determined {edition} {input} r q a b =
    let e = one_run (stored_in_lawful edition input) a b in
    (same_ran r q e.0, e.1, e.2, e.3)

pub write_determined : {edition : ℕ} {source table output : List ℕ} {t' o' t'' o'' : List ℕ} (r q : Written)
    → Write (text_in edition source) table output (wrote_report r) t' o' → Write (text_in edition source) table output (wrote_report q) t'' o''
    → (r ≡ q) × (t' ≡ t'') × (o' ≡ o'')
write_determined {edition} {source} r q a b =
    let e = one_write (text_in_lawful edition source) a b in
    (same_wrote r q e.0, e.1, e.2)

pub store_determined : {edition : ℕ} {source table output : List ℕ} {t' o' t'' o'' : List ℕ} (r q : Written)
    → Store (text_in edition source) table output (wrote_report r) t' o' → Store (text_in edition source) table output (wrote_report q) t'' o''
    → (r ≡ q) × (t' ≡ t'') × (o' ≡ o'')
store_determined {edition} {source} r q a b =
    let e = one_store (text_in_lawful edition source) a b in
    (same_wrote r q e.0, e.1, e.2)

pub profile_determined : {edition : ℕ} {source table t' u' : List ℕ} (r q : ProfiledAt ℕ) → Profile (text_in edition source) table (profiled_report r) t'
    → Profile (text_in edition source) table (profiled_report q) u' → (r ≡ q) × (t' ≡ u')
profile_determined {edition} {source} r q a b =
    let e = one_profile (text_in_lawful edition source) a b in
    (same_profiled r q e.0, e.1)
