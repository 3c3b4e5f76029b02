-- What a cause and a stop come to, by the number, by whether it has a place, and by what was found of the place.
use borrow.Author.Tests.{eq-eqb, ne_eqb}
use lib.ListN.{length, take, drop}
use mathlib.Core.Bool.{true, false}
use mathlib.Core.List.{List, [], ◌++◌}
use mathlib.Core.Path.{◌≡◌, sym, ◌∙◌}
use Prim.Native.Nat.{ℕ, ◌-◌, min}
use Rattle.language.specs.Numbers.{stop_number}
use Rattle.language.specs.Tokens.{spell}
use Rattle.numbers.specs.Meanings.{stop_meant}
use Rattle.numbers.specs.declared.Stop.{Stop}
use Rattle.page.specs.Lines.{Spotted}
use Rattle.page.specs.Text.{decimal_of}
use Rattle.page.specs.declared.lines.Spot.{Spot}
use Rattle.wording.specs.Causes.{cause_number, cause_placed}
use Rattle.wording.specs.Fields.{name_words}
use Rattle.wording.specs.Spots.{line_at, column_at, bytes_at, before_at, plain_at}
use Rattle.wording.specs.Words.{cause_words}
use Rattle.wording.specs.declared.causes.Cause.{Cause}
use Rattle.wording.specs.declared.places.Places.{Places}
use Rattle.wording.proofs.Spotting.{line_is, column_is, bytes_are, before_are, plain_is}
use Rattle.clerk.specs.Shifts.{stop_line}
use Rattle.clerk.specs.Told.{position_words, marked_lines, meaning_line, placed_lines, cause_lines}

-- ---- the number

module _ (why : Cause) {n : ℕ} (e : n ≡ cause_number why) where
  pub unnumbered : n ≡ 0 → cause_words why ++ spell "\n" ≡ meaning_line why
  unfolding meaning_line
  unnumbered z =
      let none : cause_number why ≡ 0 = sym e ∙ z in
      rw (eq-eqb (cause_number why) 0 none)

  pub numbered : (n ≡ 0 → ⊥)
      → spell "number " ++ decimal_of n ++ spell ": " ++ cause_words why ++ spell "\n" ≡ meaning_line why
  unfolding meaning_line
  numbered d = rw (ne_eqb (cause_number why) 0 (λ z. d (e ∙ z)), e)

-- ---- the place

module _ {sheet : List ℕ} (p : ℕ) {s : Spot} (f : Spotted sheet (min p (length sheet)) s) where
  pub position_at : (file : List ℕ)
      → position_words file s.line s.column ≡ position_words file (line_at sheet p) (column_at sheet p)
  position_at file = rw (line_is p f, column_is p f)

  pub marked_at : marked_lines s.plain (take (s.to - s.from) (drop s.from sheet)) (take (s.here - s.from) (drop s.from sheet))
      ≡ marked_lines (plain_at sheet p) (bytes_at sheet p) (before_at sheet p)
  marked_at = rw (plain_is p f, bytes_are p f, before_are p f)

module _ (file sheet : List ℕ) (places : Places) (why : Cause) (p : ℕ) where
  pub placed_is : cause_placed why ≡ true → placed_lines file sheet places why p ≡ cause_lines file sheet places why p
  unfolding cause_lines
  placed_is e = rw e

  pub unplaced_is : cause_placed why ≡ false
      → name_words file ++ spell ": " ++ meaning_line why ≡ cause_lines file sheet places why p
  unfolding cause_lines
  unplaced_is e = rw e

-- ---- a stop

module _ (why : Stop) {n : ℕ} {lines : ℕ} (e : n ≡ lines) where
  pub no_stop : n ≡ 0 → [] ≡ stop_line why lines
  unfolding stop_line
  no_stop z =
      let none : lines ≡ 0 = sym e ∙ z in
      rw (eq-eqb lines 0 none)

pub some_stop : (why : Stop) {k n lines : ℕ} → k ≡ stop_number (stop_meant why) → n ≡ lines → (n ≡ 0 → ⊥)
    → spell "number " ++ decimal_of k ++ spell "  " ++ decimal_of n ++ spell " " ++ cause_words (Cause.Stopped why) ++ spell "\n"
    ≡ stop_line why lines
unfolding stop_line cause_words
some_stop why {k} {n} {lines} e f d = rw (ne_eqb lines 0 (λ z. d (f ∙ z)), e, f)
