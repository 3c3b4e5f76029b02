-- The report on a sheet for machines: a name and a value on each line.
use Rattle.std.specs.Prelude.{eqb, cond, List, [], ◌++◌, Option, Some, None, ℕ}
use Rattle.language.specs.Tokens.{spell}
use Rattle.layout.specs.Values.{meant}
use Rattle.wording.specs.Causes.{cause_number, cause_placed}
use Rattle.wording.specs.Fields.{name_words, number_line}
use Rattle.wording.specs.Spots.{line_at, column_at}
use Rattle.wording.specs.Types.{type_line}
use Rattle.wording.specs.Values.{value_lines}
use Rattle.wording.specs.Words.{cause_words}
use Rattle.wording.specs.declared.causes.Cause.{Cause}
use Rattle.wording.specs.declared.ends.End.{End}
use Rattle.wording.specs.declared.limits.Limits.{Limits}
use Rattle.wording.specs.declared.places.Places.{Places}

unfoldable pub sheet_line : (file : List ℕ) → List ℕ
sheet_line file = spell "sheet " ++ name_words file ++ spell "\n"

unfoldable pub well_lines : List ℕ
well_lines = spell "number 0\nmeaning all is well\n"

-- ---- a cause

unfoldable pub meant_line : Cause → List ℕ
meant_line why = spell "meaning " ++ cause_words why ++ spell "\n"

-- the number, where there is one, and what is meant
unfoldable pub meaning_lines : Cause → List ℕ
meaning_lines why =
    cond (eqb (cause_number why) 0) (meant_line why)
    (number_line (spell "number") (cause_number why) ++ meant_line why)

-- a byte, counted from 0, and its line and column, counted from 1
unfoldable pub place_lines : (sheet : List ℕ) (place : ℕ) → List ℕ
place_lines sheet p =
    number_line (spell "place") p
    ++ number_line (spell "line") (line_at sheet p)
    ++ number_line (spell "column") (column_at sheet p)

-- a place of a stored sheet is a line, and nothing more
unfoldable pub placed_lines : (sheet : List ℕ) → Places → (place : ℕ) → List ℕ
placed_lines sheet Places.Bytes p = place_lines sheet p
placed_lines sheet Places.Lines p = number_line (spell "line") p

-- with its place, if it has one
unfoldable pub cause_lines : (sheet : List ℕ) → Places → Cause → (place : ℕ) → List ℕ
cause_lines sheet places why p = meaning_lines why ++ cond (cause_placed why) (placed_lines sheet places p) []

-- ---- the whole

-- the count of a sheet's profile, where it is known
unfoldable pub bound_lines : Option ℕ → List ℕ
bound_lines None = []
bound_lines (Some n) = number_line (spell "count") n

unfoldable pub ran_lines : (units : ℕ) → Limits → (printed : ℕ) → List ℕ
ran_lines units limits printed =
    number_line (spell "units") units
    ++ number_line (spell "allowance") limits.allowance
    ++ bound_lines limits.most
    ++ number_line (spell "printed") printed

unfoldable pub end_lines : (sheet : List ℕ) → Places → Limits → End → List ℕ
end_lines sheet places limits (End.Passed k) = well_lines ++ type_line k
end_lines sheet places limits (End.Counted k n) = well_lines ++ type_line k ++ number_line (spell "count") n
end_lines sheet places limits (End.Value k v units printed) =
    well_lines ++ type_line k ++ value_lines (meant v) ++ ran_lines units limits printed
end_lines sheet places limits (End.Refused why p) = cause_lines sheet places why p
end_lines sheet places limits (End.Stopped why p k units printed) =
    cause_lines sheet places why p ++ type_line k ++ ran_lines units limits printed

-- with the status that the program ends with
unfoldable pub report_lines : (status : ℕ) (file sheet : List ℕ) → Places → Limits → End → List ℕ
report_lines status file sheet places limits end =
    number_line (spell "status") status ++ sheet_line file ++ end_lines sheet places limits end
