-- The profile of two sheets is that of the joined text, told of the two, under any sizes.
use mathlib.Core.List.{List}
use Prim.Native.Nat.{ℕ}
use Rattle.language.specs.Sizes.{Sizes}
use Rattle.language.specs.Edition.{text_in_under, pair_in_under}
use Rattle.language.specs.Pairs.{joined, Place}
use Rattle.language.specs.Profile.{ProfileReport, profile_report, ProfiledUnder, ProfileUnder}
use Rattle.language.specs.Profile.{profile_short, profile_refused, profile_endless, profile_many, profile_passed}
use Rattle.language.proofs.Answers.Pairs.{moved, passes_joined, refused_joined}

abbrev pub profile_moved : List ℕ → List ℕ → ProfileReport ℕ → ProfileReport Place
profile_moved first second r = profile_report r.told (moved first second r.told r.place) r.type r.count

-- in whatever edition
module _ (n : ℕ) (first second : List ℕ) where
  profile_joined : {σ : Sizes} {table : ℕ} {r : ProfileReport ℕ} → ProfiledUnder σ (text_in_under σ n (joined first second)) table r
      → ProfiledUnder σ (pair_in_under σ n first second) table (profile_moved first second r)
  profile_joined (profile_short h) = profile_short h
  profile_joined (profile_refused h x) = profile_refused h (refused_joined n first second x)
  profile_joined (profile_endless h x k) = profile_endless h (passes_joined n first second x) k
  profile_joined (profile_many h x k m) = profile_many h (passes_joined n first second x) k m
  profile_joined (profile_passed h x k m) = profile_passed h (passes_joined n first second x) k m

  pub pair_profile : {σ : Sizes} {table table' : List ℕ} {r : ProfileReport ℕ} → ProfileUnder σ (text_in_under σ n (joined first second)) table r table'
      → ProfileUnder σ (pair_in_under σ n first second) table (profile_moved first second r) table'
  pair_profile x = record { answer = profile_joined x.answer; table_left = x.table_left }
