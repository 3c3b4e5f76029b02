-- A sheet with none of the words and marks of counted loops is answered the same in both editions (R12.3, R12.14): by check, run,
-- write, store and profile, of a text and of two sheets, with all that they leave behind.
use mathlib.Core.List.{List}
use mathlib.Core.Logic.{◌↔◌}
use mathlib.Core.Path.{refl}
use Prim.Native.Nat.{ℕ}
use Rattle.language.specs.Sizes.{Sizes}
use Rattle.language.specs.Tokens.{EDITION_1, EDITION_2, Token}
use Rattle.language.specs.Trees.{Ty, Program}
use Rattle.language.specs.Numbers.{Refusal}
use Rattle.language.specs.Answers as Answers
use Rattle.language.specs.Answers.{Origin, TextDeniesUnder, TextGivesUnder, text_under, PassesUnder, CheckReport, CheckUnder, RunReport, RunUnder}
use Rattle.language.specs.Writing.{WriteReport, WriteUnder, StoreUnder}
use Rattle.language.specs.Profile.{ProfileReport, ProfileUnder}
use Rattle.language.specs.Pairs.{joined, Place, PairDeniesUnder, too_long, flawed, pair_under}
use Rattle.language.specs.Edition.{text_in_under, pair_in_under}
use Rattle.language.proofs.Text.NothingNew.{Every, OldWord, OldKind, NothingNew, same_split, same_flaw, nothing_in_tokens, nothing_in_kinds}
use Rattle.language.proofs.Answers.Origins.{text_lawful}
use Rattle.language.proofs.Answers.Follow.{Follows, follows_on, follows_back, passes_follow, check_follow, run_follow, write_follow}
use Rattle.language.proofs.Answers.Follow.{store_follow, profile_follow}
use Rattle.language.proofs.Answers.Editions.{text_alike, pair_alike, text_in_lawful_under, pair_in_lawful_under, named_follows, named_back, two_is}
use Rattle.language.proofs.Answers.Editions.{text_as_it_was, pair_as_it_was}

-- each follows the other
abbrev pub Same : {P : Type 0} → Origin P → Origin P → Type 0
Same o q = Follows o q × Follows q o

-- so every answer of the one is an answer of the other, with what is left of all that was lent
module _ {P : Type 0} {o q : Origin P} (same : Same o q) where
  pub same_check : {σ : Sizes} {table table' : List ℕ} {r : CheckReport P} → CheckUnder σ o table r table' ↔ CheckUnder σ q table r table'
  same_check = (check_follow same.0, check_follow same.1)

  pub same_run : {σ : Sizes} {table work output table' work' output' : List ℕ} {allowance : ℕ} {r : RunReport P}
      → RunUnder σ o table work output allowance r table' work' output' ↔ RunUnder σ q table work output allowance r table' work' output'
  same_run = (run_follow same.0, run_follow same.1)

  pub same_write : {σ : Sizes} {table output table' output' : List ℕ} {r : WriteReport P}
      → WriteUnder σ o table output r table' output' ↔ WriteUnder σ q table output r table' output'
  same_write = (write_follow same.0, write_follow same.1)

  pub same_store : {σ : Sizes} {table output table' output' : List ℕ} {r : WriteReport P}
      → StoreUnder σ o table output r table' output' ↔ StoreUnder σ q table output r table' output'
  same_store = (store_follow same.0, store_follow same.1)

  -- the profile of it, too (R10)
  pub same_profile : {σ : Sizes} {table table' : List ℕ} {r : ProfileReport P} → ProfileUnder σ o table r table' ↔ ProfileUnder σ q table r table'
  same_profile = (profile_follow same.0, profile_follow same.1)

-- ---- a text

module _ {σ : Sizes} {source : List ℕ} (old : NothingNew σ source) where
  given : {ts : List Token} → TextGivesUnder σ EDITION_1 source ts → TextGivesUnder σ EDITION_2 source ts
  given x = record { short = x.short; splits = same_split old x.splits }

  denied : {r : Refusal} {p : ℕ} → TextDeniesUnder σ EDITION_1 source r p → TextDeniesUnder σ EDITION_2 source r p
  denied (Answers.too_long h) = Answers.too_long h
  denied (Answers.flawed h x) = Answers.flawed h (same_flaw old x)

  forth : Follows (text_in_under σ 1 source) (text_in_under σ 2 source)
  forth =
      let words : Follows (text_under σ EDITION_1 source) (text_under σ EDITION_2 source) =
      record { gives = given; denies = denied; nowhere = refl; at = λ ts i. refl } in
      follows_on (text_as_it_was source).1 (follows_on words (named_follows 2 (text_alike source) two_is))

  pub text_in_both : Same (text_in_under σ 1 source) (text_in_under σ 2 source)
  text_in_both = (forth, follows_back (text_in_lawful_under 1 source) (text_in_lawful_under 2 source) forth)

-- What passes in edition 1 without the new words passes in edition 2, and all is answered the same. Nothing is asked of points:
-- a text that splits in edition 1 has no two of them side by side but in comments.
pub first_in_both : {σ : Sizes} {source : List ℕ} {ts : List Token} {p : Program} {t : Ty} → PassesUnder σ (text_in_under σ 1 source) ts p t → Every OldWord ts
    → PassesUnder σ (text_in_under σ 2 source) ts p t × Same (text_in_under σ 1 source) (text_in_under σ 2 source)
first_in_both {source} x old =
    let splits = ((text_as_it_was source).1.gives x.given).splits in
    let both = text_in_both (nothing_in_tokens splits old) in
    (passes_follow both.0 x, both)

-- and what passes in edition 2 with no token of a new kind passes in edition 1
pub second_in_both : {σ : Sizes} {source : List ℕ} {ts : List Token} {p : Program} {t : Ty} → PassesUnder σ (text_in_under σ 2 source) ts p t → Every OldKind ts
    → PassesUnder σ (text_in_under σ 1 source) ts p t × Same (text_in_under σ 1 source) (text_in_under σ 2 source)
second_in_both {source} x old =
    let splits = ((named_back 2 (text_alike source) (λ v laws. text_lawful laws source) two_is).gives x.given).splits in
    let both = text_in_both (nothing_in_kinds splits old) in
    (passes_follow both.1 x, both)

-- ---- two sheets

module _ {σ : Sizes} {first second : List ℕ} (old : NothingNew σ (joined first second)) where
  pair_denied : {r : Refusal} {x : Place} → PairDeniesUnder σ EDITION_1 first second r x → PairDeniesUnder σ EDITION_2 first second r x
  pair_denied (too_long h) = too_long h
  pair_denied (flawed h x) = flawed h (same_flaw old x)

  pair_forth : Follows (pair_in_under σ 1 first second) (pair_in_under σ 2 first second)
  pair_forth =
      let words : Follows (pair_under σ EDITION_1 first second) (pair_under σ EDITION_2 first second) =
      record { gives = given old; denies = pair_denied; nowhere = refl; at = λ ts i. refl } in
      follows_on (pair_as_it_was first second).1 (follows_on words (named_follows 2 (pair_alike first second) two_is))

  pub pair_in_both : Same (pair_in_under σ 1 first second) (pair_in_under σ 2 first second)
  pair_in_both = (pair_forth, follows_back (pair_in_lawful_under 1 first second) (pair_in_lawful_under 2 first second) pair_forth)
