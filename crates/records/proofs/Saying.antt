-- What a cause comes to, by its number and by whether it has a place.
use borrow.Author.Tests.{eq-eqb, ne_eqb}
use mathlib.Core.Bool.{true, false}
use mathlib.Core.List.{List, [], ◌++◌}
use mathlib.Core.Path.{◌≡◌, sym, ◌∙◌}
use lib.ListN.{length}
use Prim.Native.Nat.{ℕ, min}
use Rattle.language.specs.Tokens.{spell}
use Rattle.page.specs.Lines.{Spotted}
use Rattle.page.specs.declared.lines.Spot.{Spot}
use Rattle.wording.specs.Causes.{cause_number, cause_placed}
use Rattle.wording.specs.Fields.{number_line}
use Rattle.wording.specs.declared.causes.Cause.{Cause}
use Rattle.wording.specs.declared.places.Places.{Places}
use Rattle.wording.proofs.Spotting.{line_is, column_is}
use Rattle.records.specs.Told.{meant_line, meaning_lines, place_lines, placed_lines, cause_lines}

module _ (why : Cause) {n : ℕ} (e : n ≡ cause_number why) where
  pub unnumbered : n ≡ 0 → meant_line why ≡ meaning_lines why
  unfolding meaning_lines
  unnumbered z =
      let none : cause_number why ≡ 0 = sym e ∙ z in
      rw (eq-eqb (cause_number why) 0 none)

  pub numbered : (n ≡ 0 → ⊥) → number_line (spell "number") n ++ meant_line why ≡ meaning_lines why
  unfolding meaning_lines
  numbered d = rw (ne_eqb (cause_number why) 0 (λ z. d (e ∙ z)), e)

pub place_at : {sheet : List ℕ} (p : ℕ) {s : Spot} → Spotted sheet (min p (length sheet)) s
    → number_line (spell "place") p ++ number_line (spell "line") s.line ++ number_line (spell "column") s.column
    ≡ place_lines sheet p
unfolding place_lines
place_at p f = rw (line_is p f, column_is p f)

module _ (sheet : List ℕ) (places : Places) (why : Cause) (p : ℕ) where
  pub placed_is : cause_placed why ≡ true → meaning_lines why ++ placed_lines sheet places p ≡ cause_lines sheet places why p
  unfolding cause_lines
  placed_is e = rw e

  pub unplaced_is : cause_placed why ≡ false → meaning_lines why ++ [] ≡ cause_lines sheet places why p
  unfolding cause_lines
  unplaced_is e = rw e
