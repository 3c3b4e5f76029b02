-- The code's editions: their vocabularies are lawful, have the same bases, and give no word and no mark the kind of a float number.
use borrow.Author.Tests.{ne_eqb}
use lib.Dec.{eqb}
use mathlib.Core.Bool.{true, not}
use mathlib.Core.Option.{none, some}
use mathlib.Core.Path.{◌≡◌, refl, subst, sym}
use Prim.Native.Nat.{ℕ}
use Rattle.language.proofs.Text.Marks.{Laws, laws_1, laws_2}
use Rattle.language.proofs.Text.Tables.{kind_of, every}
use Rattle.language.specs.Edition.{edition}
use Rattle.language.specs.Tokens.{Vocabulary, EDITION_1, EDITION_2, bases, FLOAT_NUMBER}
use Rattle.tokens.specs.Editions.{meant}
use Rattle.tokens.specs.declared.edition.Edition.{Edition}
use Rattle.tokens.specs.declared.edition.Edition.TheVariants.{One, Two}

pub laws_of : (e : Edition) → Laws (meant e)
laws_of One = laws_1
laws_of Two = laws_2

pub shared_bases : (e : Edition) → (meant e).bases ≡ bases
shared_bases One = refl
shared_bases Two = refl

pub other_words : (e : Edition) → every (λ r. not (eqb (kind_of r) FLOAT_NUMBER)) (meant e).words ≡ true
unfolding every
other_words One = refl
other_words Two = refl

pub other_marks : (e : Edition) → every (λ r. not (eqb (kind_of r) FLOAT_NUMBER)) (meant e).marks ≡ true
unfolding every
other_marks One = refl
other_marks Two = refl

-- what is so by the vocabulary of a variant is so by that of the edition that is it
pub by_edition : (P : Vocabulary → Type 0) {e d : Edition} → e ≡ d → P (meant d) → P (meant e)
by_edition P z x = subst (λ (e : Edition). P (meant e)) (sym z) x

-- ---- the number that a caller names one by

module _ (n : ℕ) where
  pub one_named : n ≡ 1 → edition n ≡ some EDITION_1
  unfolding edition
  one_named e = rw e

  pub two_named : n ≡ 2 → edition n ≡ some EDITION_2
  unfolding edition
  two_named e = rw e

  pub none_named : (n ≡ 1 → ⊥) → (n ≡ 2 → ⊥) → edition n ≡ none
  unfolding edition
  none_named a b = rw (ne_eqb n 1 a, ne_eqb n 2 b)
