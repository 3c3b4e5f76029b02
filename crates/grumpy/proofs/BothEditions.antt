-- A sheet with none of the words and marks of counted loops is answered the same in both editions (R12.3): by check, run, write, store
-- and profile, of a text, of two sheets and of what is stored of a text. Whatever meets the contract in edition 1 and whatever meets
-- it in edition 2 are the same answer, and leave the same in all that was lent. `Text.NothingNew` says how such a sheet is known.
use mathlib.Core.List.{List}
use mathlib.Core.Path.{◌≡◌}
use Prim.Native.Nat.{ℕ, ◌≤◌}
use native.Mathlib.Omega.{arith}
use Rattle.language.specs.Sizes.{BOX}
use Rattle.language.specs.Tokens.{Token}
use Rattle.language.specs.Answers.{Check, Run}
use Rattle.language.specs.Writing.{Write, Store}
use Rattle.language.specs.Profile.{Profile}
use Rattle.language.specs.Pairs.{joined}
use Rattle.language.specs.Stored.{COUNT, stored}
use Rattle.language.specs.Edition.{text_in, pair_in, stored_in}
use Rattle.language.proofs.Text.NothingNew.{NothingNew}
use Rattle.language.proofs.Answers.BothEditions.{text_in_both, pair_in_both, same_check, same_run, same_write, same_store, same_profile}
use Rattle.language.proofs.Stored.BothEditions.{stored_in_both}
use Rattle.pairs.specs.declared.Spot.{Spot}
use Rattle.grumpy.specs.Reports.{CheckedAt, ProfiledAt, RanAt, Written, checked_report, ran_report, wrote_report, profiled_report}
use Rattle.grumpy.specs.Reports.{pair_checked_report, pair_ran_report, pair_profiled_report}
use Rattle.grumpy.proofs.Determined.{check_determined, run_determined, write_determined, store_determined, profile_determined}
use Rattle.grumpy.proofs.Determined.{check_stored_determined, run_stored_determined}
use Rattle.grumpy.proofs.TwoSheets.{check_pair_determined, run_pair_determined, profile_pair_determined}

-- ---- a text

module _ {source : List ℕ} (old : NothingNew BOX source) where
  pub check_in_both : {table t' t'' : List ℕ} (r q : CheckedAt ℕ) → Check (text_in 1 source) table (checked_report r) t'
      → Check (text_in 2 source) table (checked_report q) t'' → (r ≡ q) × (t' ≡ t'')
  check_in_both r q a b = check_determined r q ((same_check (text_in_both old)).0 a) b

  pub run_in_both : {table work output : List ℕ} {allowance : ℕ} {t' w' o' t'' w'' o'' : List ℕ} (r q : RanAt ℕ)
      → Run (text_in 1 source) table work output allowance (ran_report r) t' w' o'
      → Run (text_in 2 source) table work output allowance (ran_report q) t'' w'' o'' → (r ≡ q) × (t' ≡ t'') × (w' ≡ w'') × (o' ≡ o'')
  run_in_both r q a b = run_determined r q ((same_run (text_in_both old)).0 a) b

  pub write_in_both : {table output t' o' t'' o'' : List ℕ} (r q : Written) → Write (text_in 1 source) table output (wrote_report r) t' o'
      → Write (text_in 2 source) table output (wrote_report q) t'' o'' → (r ≡ q) × (t' ≡ t'') × (o' ≡ o'')
  write_in_both r q a b = write_determined r q ((same_write (text_in_both old)).0 a) b

  pub store_in_both : {table output t' o' t'' o'' : List ℕ} (r q : Written) → Store (text_in 1 source) table output (wrote_report r) t' o'
      → Store (text_in 2 source) table output (wrote_report q) t'' o'' → (r ≡ q) × (t' ≡ t'') × (o' ≡ o'')
  store_in_both r q a b = store_determined r q ((same_store (text_in_both old)).0 a) b

  pub profile_in_both : {table t' t'' : List ℕ} (r q : ProfiledAt ℕ) → Profile (text_in 1 source) table (profiled_report r) t'
      → Profile (text_in 2 source) table (profiled_report q) t'' → (r ≡ q) × (t' ≡ t'')
  profile_in_both r q a b = profile_determined r q ((same_profile (text_in_both old)).0 a) b

-- ---- two sheets

module _ {first second : List ℕ} (old : NothingNew BOX (joined first second)) where
  pub check_pair_in_both : {table t' t'' : List ℕ} (r q : CheckedAt Spot) → Check (pair_in 1 first second) table (pair_checked_report r) t'
      → Check (pair_in 2 first second) table (pair_checked_report q) t'' → (r ≡ q) × (t' ≡ t'')
  check_pair_in_both r q a b = check_pair_determined r q ((same_check (pair_in_both old)).0 a) b

  pub run_pair_in_both : {table work output : List ℕ} {allowance : ℕ} {t' w' o' t'' w'' o'' : List ℕ} (r q : RanAt Spot)
      → Run (pair_in 1 first second) table work output allowance (pair_ran_report r) t' w' o'
      → Run (pair_in 2 first second) table work output allowance (pair_ran_report q) t'' w'' o'' → (r ≡ q) × (t' ≡ t'') × (w' ≡ w'') × (o' ≡ o'')
  run_pair_in_both r q a b = run_pair_determined r q ((same_run (pair_in_both old)).0 a) b

  pub profile_pair_in_both : {table t' t'' : List ℕ} (r q : ProfiledAt Spot) → Profile (pair_in 1 first second) table (pair_profiled_report r) t'
      → Profile (pair_in 2 first second) table (pair_profiled_report q) t'' → (r ≡ q) × (t' ≡ t'')
  profile_pair_in_both r q a b = profile_pair_determined r q ((same_profile (pair_in_both old)).0 a) b

-- ---- a stored sheet

module _ {source : List ℕ} (old : NothingNew BOX source) {ts : List Token} (g : (text_in 1 source).gives ts) where
  countable : BOX.tokens ≤ COUNT
  countable = omega arith

  pub check_stored_in_both : {table t' t'' : List ℕ} (r q : CheckedAt ℕ) → Check (stored_in 1 (stored ts)) table (checked_report r) t'
      → Check (stored_in 2 (stored ts)) table (checked_report q) t'' → (r ≡ q) × (t' ≡ t'')
  check_stored_in_both r q a b = check_stored_determined r q ((same_check (stored_in_both countable old g)).0 a) b

  pub run_stored_in_both : {table work output : List ℕ} {allowance : ℕ} {t' w' o' t'' w'' o'' : List ℕ} (r q : RanAt ℕ)
      → Run (stored_in 1 (stored ts)) table work output allowance (ran_report r) t' w' o'
      → Run (stored_in 2 (stored ts)) table work output allowance (ran_report q) t'' w'' o'' → (r ≡ q) × (t' ≡ t'') × (w' ≡ w'') × (o' ≡ o'')
  run_stored_in_both r q a b = run_stored_determined r q ((same_run (stored_in_both countable old g)).0 a) b
