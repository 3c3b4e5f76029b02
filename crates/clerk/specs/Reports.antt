-- The whole report on a sheet, for people.
use Rattle.std.specs.Prelude.{List, [], ◌++◌, Option, Some, None, ℕ}
use Rattle.language.specs.Tokens.{spell}
use Rattle.layout.specs.Values.{meant}
use Rattle.page.specs.Text.{decimal_of}
use Rattle.wording.specs.Types.{type_line}
use Rattle.wording.specs.Values.{value_lines}
use Rattle.wording.specs.declared.ends.End.{End}
use Rattle.wording.specs.declared.limits.Limits.{Limits}
use Rattle.wording.specs.declared.places.Places.{Places}
use Rattle.clerk.specs.Told.{cause_lines}

unfoldable pub well_line : List ℕ
well_line = spell "number 0: all is well\n"

-- how many units it can use, where that is known
unfoldable pub bound_words : Option ℕ → List ℕ
bound_words None = []
bound_words (Some n) = spell ", at most " ++ decimal_of n ++ spell " by the profile"

unfoldable pub units_line : (used : ℕ) → Limits → List ℕ
units_line used limits =
    spell "units " ++ decimal_of used ++ spell " of " ++ decimal_of limits.allowance ++ bound_words limits.most
    ++ spell "\n"

unfoldable pub counted_line : ℕ → List ℕ
counted_line n = spell "units at most " ++ decimal_of n ++ spell "\n"

-- the bytes that the sheet printed are the slip itself, and are not told again
unfoldable pub report_text : (file sheet : List ℕ) → Places → Limits → End → List ℕ
report_text file sheet places limits (End.Passed k) = well_line ++ type_line k
report_text file sheet places limits (End.Counted k n) = well_line ++ type_line k ++ counted_line n
report_text file sheet places limits (End.Value k v used printed) =
    well_line ++ type_line k ++ value_lines (meant v) ++ units_line used limits
report_text file sheet places limits (End.Refused why p) = cause_lines file sheet places why p
report_text file sheet places limits (End.Stopped why p k used printed) =
    cause_lines file sheet places why p ++ type_line k ++ units_line used limits
