-- A stored sheet by the caller's edition (R12.12): whatever number is named there is one answer, and a known number answers what
-- its vocabulary answers.
use mathlib.Core.Bool.{Bool, true, false, cond}
use mathlib.Core.List.{List}
use mathlib.Core.Option.{none, some}
use mathlib.Core.Path.{◌≡◌, refl, subst}
use Prim.Native.Nat.{ℕ, ◌≤◌}
use native.Mathlib.Omega.{arith}
use lib.Dec.{eqb}
use Rattle.language.specs.Sizes.{Sizes}
use Rattle.language.specs.Tokens.{Vocabulary, EDITION_1, EDITION_2, Token}
use Rattle.language.specs.Stored.{COUNT, StoredGivesUnder, stored_under}
use Rattle.language.specs.Edition.{edition, stored_in_under, stored_in}
use Rattle.language.proofs.Answers.Editions.{named_laws, edition_lawful, Alike, named_follows, named_back}
use Rattle.language.proofs.Answers.Follow.{Follows}
use Rattle.language.proofs.Answers.Origins.{LawfulUnder, Lawful}
use Rattle.language.proofs.Stored.Bytes.{ByteMarks, byte_marks_1, byte_marks_2}
use Rattle.language.proofs.Stored.Origin.{stored_lawful_under}

pub named_marks : (n : ℕ) {v : Vocabulary} → edition n ≡ some v → ByteMarks v
unfolding edition
named_marks n {v} e = by (eqb n 1) (eqb n 2) e
  where
    by : (a b : Bool) → cond a (some EDITION_1) (cond b (some EDITION_2) none) ≡ some v → ByteMarks v
    by true b h = subst ByteMarks (cc) byte_marks_1
    by false true h = subst ByteMarks (cc) byte_marks_2
    by false false h = let z : ◌≡◌ {A = ℕ} 0 1 = cc in absurd (omega arith)

-- where a count can tell as many tokens as there may be
unfoldable pub stored_in_lawful_under : {σ : Sizes} → σ.tokens ≤ COUNT → (n : ℕ) (input : List ℕ) → LawfulUnder σ (stored_in_under σ n input)
unfolding edition_lawful stored_lawful_under
stored_in_lawful_under told n input = edition_lawful n _ λ v e. stored_lawful_under told (named_laws n e) input

-- under the box's sizes
unfoldable pub stored_in_lawful : (n : ℕ) (input : List ℕ) → Lawful (stored_in n input)
unfolding stored_in_lawful_under
stored_in_lawful n input = stored_in_lawful_under (omega arith) n input

pub stored_alike : {σ : Sizes} (input : List ℕ) → Alike (λ voc. stored_under σ voc input)
stored_alike input = record { nowhere = λ v. refl; at = λ v ts i. refl }

module _ (n : ℕ) (input : List ℕ) {v : Vocabulary} (e : edition n ≡ some v) where
  pub stored_follows : {σ : Sizes} → Follows (stored_under σ v input) (stored_in_under σ n input)
  stored_follows = named_follows n (stored_alike input) e

  pub stored_back_in : {σ : Sizes} → σ.tokens ≤ COUNT → Follows (stored_in_under σ n input) (stored_under σ v input)
  stored_back_in told = named_back n (stored_alike input) (λ w laws. stored_lawful_under told laws input) e

  pub gives_in : {σ : Sizes} {ts : List Token} → StoredGivesUnder σ v input ts → (stored_in_under σ n input).gives ts
  gives_in g = stored_follows.gives g
