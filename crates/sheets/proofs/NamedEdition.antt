-- What was seen of a sheet, wherever its tokens come from, in the edition that a number names.
use mathlib.Core.List.{List}
use mathlib.Core.Option.{some}
use mathlib.Core.Path.{◌≡◌, refl, subst}
use Prim.Native.Nat.{ℕ}
use Rattle.std.proofs.Common.{Ok, Err}
use Rattle.language.specs.Tokens.{Vocabulary}
use Rattle.language.specs.Answers.{Origin, by_origin}
use Rattle.language.specs.Edition.{edition, in_edition, unknown}
use Rattle.language.proofs.Answers.Editions.{Alike, passes_in, refused_in}
use Rattle.numbers.specs.declared.Refusal.{Refusal}
use Rattle.tokens.specs.Editions.{meant, Names}
use Rattle.tokens.specs.declared.edition.Edition.{Edition}
use Rattle.std.specs.Prelude.{Option, Some, None}
use Rattle.sheets.specs.Sheets.{OfSource, Examined}
use Rattle.sheets.specs.Sheets.{Seen}

module _ (number : ℕ) (o : Vocabulary → Origin ℕ) where
  module _ (alike : Alike o) (w w₁ : List ℕ) where
    of_known : {v : Vocabulary} → edition number ≡ some v → (s : Seen) → OfSource (o v) w₁ s → OfSource (in_edition number o) w₁ s
    of_known e (Ok p) x = record {
      tokens = x.tokens;
      program = x.program;
      type = x.type;
      passes = passes_in number alike e x.passes;
      numbered = x.numbered;
      holds = x.holds;
    }
    of_known e (Err r) x = refused_in number alike e x

    -- a number that names one
    pub examined_known : (k : Option Edition) (e : Edition) (s : Seen) → Names number k → k ≡ Some e → Examined (o (meant e)) w w₁ s
        → Examined (in_edition number o) w w₁ s
    examined_known k e s y z x = record { told = of_known (subst (Names number) z y) s x.told; rest = x.rest; long = x.long }

  -- and one that names none, where what has no place is told at 0
  pub examined_unknown : (w : List ℕ) (k : Option Edition) → Names number k → k ≡ None
      → Examined (in_edition number o) w w (Err (record { why = Refusal.NoEdition; place = (in_edition number o).nowhere }))
  examined_unknown w k y z = record { told = by_origin (unknown (subst (Names number) z y)); rest = refl; long = refl }
