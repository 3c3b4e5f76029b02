-- The editions of the language: each is a vocabulary, which a caller names by a number (R12.2). An origin that reads by
-- a vocabulary is one that reads by the caller's number; places are told alike in every edition.
use Rattle.std.specs.Prelude.{Bool, true, false, List, ◌≡◌, ℕ}
use Rattle.std.proofs.Math.Option.{Option, none, some}
use Rattle.language.specs.Sizes.{Sizes, BOX}
use Rattle.language.specs.Tokens.{Vocabulary, EDITION_1, Token}
-- the vocabulary that a number names
unfoldable pub use Rattle.language.specs.Tokens.{edition}
use Rattle.language.specs.Numbers.{Refusal, no_edition}
use Rattle.language.specs.Answers.{Origin, text_under}
use Rattle.language.specs.Stored.{stored_under}
use Rattle.language.specs.Pairs.{Place, pair_under}

abbrev pub is_some : {A : Type 0} → Option A → Bool
is_some none = false
is_some (some a) = true

-- whether it names one
unfoldable pub is_known : ℕ → Bool
is_known n = is_some (edition n)

module _ {P : Type 0} (n : ℕ) (o : Vocabulary → Origin P) where
  -- a number that names none is told before all that the origin denies
  pub data EditionDenies : Refusal → P → Type 0 where
    unknown : edition n ≡ none → EditionDenies no_edition (o EDITION_1).nowhere
    known : {voc : Vocabulary} {r : Refusal} {x : P} → edition n ≡ some voc → (o voc).denies r x → EditionDenies r x

  pub record EditionGives (ts : List Token) : Type 0 where
    pub words : Vocabulary
    pub named : edition n ≡ some words
    pub given : (o words).gives ts

  abbrev pub in_edition : Origin P
  in_edition = record {
    gives = EditionGives;
    denies = EditionDenies;
    nowhere = (o EDITION_1).nowhere;
    at = (o EDITION_1).at;
  }

-- a text, a stored sheet and two sheets, as callers lend them
module _ (σ : Sizes) (n : ℕ) where
  abbrev pub text_in_under : List ℕ → Origin ℕ
  text_in_under source = in_edition n λ voc. text_under σ voc source

  abbrev pub stored_in_under : List ℕ → Origin ℕ
  stored_in_under input = in_edition n λ voc. stored_under σ voc input

  abbrev pub pair_in_under : List ℕ → List ℕ → Origin Place
  pair_in_under first second = in_edition n λ voc. pair_under σ voc first second

abbrev pub text_in : ℕ → List ℕ → Origin ℕ
text_in = text_in_under BOX

abbrev pub stored_in : ℕ → List ℕ → Origin ℕ
stored_in = stored_in_under BOX

abbrev pub pair_in : ℕ → List ℕ → List ℕ → Origin Place
pair_in = pair_in_under BOX
