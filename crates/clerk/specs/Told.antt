-- How a cause is told to people: file, line and column of its place, or of a stored sheet the line; the number, the
-- words, and the line with a mark under the place.
use Rattle.std.specs.Prelude.{eqb, Bool, cond, List, ◌++◌, ℕ}
use Rattle.language.specs.Tokens.{spell}
use Rattle.page.specs.Lines.{without_return}
use Rattle.page.specs.Text.{decimal_of, all_shown, all_blank}
use Rattle.wording.specs.Causes.{cause_number, cause_placed}
use Rattle.wording.specs.Fields.{name_words}
use Rattle.wording.specs.Spots.{line_at, column_at, bytes_at, before_at, plain_at}
use Rattle.wording.specs.Words.{cause_words}
use Rattle.wording.specs.declared.causes.Cause.{Cause}
use Rattle.wording.specs.declared.places.Places.{Places}

-- ---- where

unfoldable pub position_words : (file : List ℕ) (line column : ℕ) → List ℕ
position_words file l k = name_words file ++ spell ":" ++ decimal_of l ++ spell ":" ++ decimal_of k

unfoldable pub line_words : (file : List ℕ) (line : ℕ) → List ℕ
line_words file l = name_words file ++ spell ": line " ++ decimal_of l

unfoldable pub number_words : ℕ → List ℕ
number_words n = spell ": number " ++ decimal_of n ++ spell ": "

-- a line, and under it the mark, behind blanks as wide as what stands before the place; a carriage return at the line's
-- end is not shown
unfoldable pub marked_lines : (plain : Bool) (line before : List ℕ) → List ℕ
marked_lines plain line before =
    all_shown plain (without_return line) ++ spell "\n" ++ all_blank plain before ++ spell "^\n"

-- ---- what

-- a number, where there is one, and what is meant
unfoldable pub meaning_line : Cause → List ℕ
meaning_line why =
    cond (eqb (cause_number why) 0) (cause_words why ++ spell "\n")
    (spell "number " ++ decimal_of (cause_number why) ++ spell ": " ++ cause_words why ++ spell "\n")

-- at a place of the sheet
unfoldable pub there_lines : (file sheet : List ℕ) → Cause → (place : ℕ) → List ℕ
there_lines file sheet why p =
    position_words file (line_at sheet p) (column_at sheet p) ++ number_words (cause_number why) ++ cause_words why
    ++ spell "\n" ++ marked_lines (plain_at sheet p) (bytes_at sheet p) (before_at sheet p)

-- at a line of a stored sheet, whose digits nobody is shown
unfoldable pub on_line : (file : List ℕ) → Cause → (place : ℕ) → List ℕ
on_line file why p = line_words file p ++ number_words (cause_number why) ++ cause_words why ++ spell "\n"

unfoldable pub placed_lines : (file sheet : List ℕ) → Places → Cause → (place : ℕ) → List ℕ
placed_lines file sheet Places.Bytes why p = there_lines file sheet why p
placed_lines file sheet Places.Lines why p = on_line file why p

-- with its place, if it has one
unfoldable pub cause_lines : (file sheet : List ℕ) → Places → Cause → (place : ℕ) → List ℕ
cause_lines file sheet places why p =
    cond (cause_placed why) (placed_lines file sheet places why p) (name_words file ++ spell ": " ++ meaning_line why)
