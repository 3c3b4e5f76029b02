-- A sheet that was stored under some sizes is read under larger ones, with the answers that its source has under the former (R13.4).
use mathlib.Core.Bool.{false}
use mathlib.Core.List.{List}
use mathlib.Core.Path.{◌≡◌, subst}
use Prim.Native.Nat.{ℕ, ◌≤◌}
use Rattle.language.specs.Sizes.{Sizes}
use Rattle.language.specs.Numbers.{Told}
use Rattle.language.specs.Answers.{CheckReport, CheckedUnder, Lent, RunReport, RanUnder}
use Rattle.language.specs.Edition.{text_in_under, stored_in_under}
use Rattle.language.proofs.Answers.PlacesAside.{SameRun}
use Rattle.language.proofs.Stored.SameSheet.{SameCheck, StoredSheetUnder}
use Rattle.language.proofs.Sizes.Larger.{Larger, told_of_size}
use Rattle.language.proofs.Sizes.Wider.{stored_in_wider}
use Rattle.language.proofs.Sizes.AnswersLarger.{with_table, checked_larger, ran_larger}

module _ {σ τ : Sizes} (l : Larger σ τ) {n : ℕ} {source form : List ℕ} (s : StoredSheetUnder σ n source form) where
  pub stored_checks : {table : ℕ} (table' : ℕ) {r : CheckReport ℕ} → τ.table ≤ table' → told_of_size r.told ≡ false
      → CheckedUnder σ (text_in_under σ n source) table r
      → (r' : CheckReport ℕ) × CheckedUnder τ (stored_in_under τ n form) table' r'
      × SameCheck (text_in_under σ n source) (stored_in_under σ n form) s.tokens s.again r r'
  stored_checks table' h k a =
      let z = s.checks a in
      let same = subst (λ (x : Told). told_of_size x ≡ false) z.2.told k in
      (z.0, checked_larger l (stored_in_wider l n form) table' h same z.1, z.2)

  pub stored_runs : {k : Lent} (table' : ℕ) {r : RunReport ℕ} {bs : List ℕ} → τ.table ≤ table' → told_of_size r.told ≡ false
      → RanUnder σ (text_in_under σ n source) k r bs
      → (r' : RunReport ℕ) × RanUnder τ (stored_in_under τ n form) (with_table table' k) r' bs
      × SameRun (text_in_under σ n source) (stored_in_under σ n form) s.tokens s.again r r'
  stored_runs table' h k a =
      let z = s.runs a in
      let same = subst (λ (x : Told). told_of_size x ≡ false) z.2.told k in
      (z.0, ran_larger l (stored_in_wider l n form) table' h same z.1, z.2)
