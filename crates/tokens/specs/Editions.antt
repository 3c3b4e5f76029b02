-- The vocabularies that the code's editions are.
use Rattle.std.specs.Prelude.{Option, Some, None, Bool, true, false, ◌≡◌, ℕ}
use Rattle.std.proofs.Math.Option.{none, some}
use Rattle.language.specs.Edition.{edition}
use Rattle.language.specs.Tokens.{Vocabulary, EDITION_1, EDITION_2}
use Rattle.tokens.specs.declared.edition.Edition as edition_of
use Rattle.tokens.specs.declared.edition.Edition.TheVariants.{One, Two}

abbrev pub meant : edition_of.Edition → Vocabulary
meant One = EDITION_1
meant Two = EDITION_2

-- what the number n names
abbrev pub Names : ℕ → Option edition_of.Edition → Type 0
Names n (Some e) = edition n ≡ some (meant e)
Names n None = edition n ≡ none

-- counted loops, which edition 1 has not
abbrev pub has_loops : edition_of.Edition → Bool
has_loops One = false
has_loops Two = true
