-- The report of a shift for machines: a name and a value on each line.
use Rattle.std.specs.Prelude.{get_or, Bool, true, false, List, ◌++◌, ℕ}
use Rattle.language.specs.Tokens.{spell}
use Rattle.tally.specs.declared.sums.Sums.{Sums}
use Rattle.wording.specs.Fields.{number_line, signed_line}
use Rattle.wording.specs.declared.causes.Cause.{Cause}
use Rattle.records.specs.Told.{sheet_line, well_lines, meaning_lines}

-- ---- the sums

unfoldable pub first_lines : List ℕ → List ℕ
first_lines n =
    number_line (spell "stopped-50") (get_or n 0 0)
    ++ number_line (spell "stopped-51") (get_or n 1 0)
    ++ number_line (spell "stopped-52") (get_or n 2 0)

unfoldable pub second_lines : List ℕ → List ℕ
second_lines n =
    number_line (spell "stopped-53") (get_or n 3 0)
    ++ number_line (spell "stopped-54") (get_or n 4 0)
    ++ number_line (spell "stopped-55") (get_or n 5 0)

unfoldable pub third_lines : List ℕ → List ℕ
third_lines n =
    number_line (spell "stopped-56") (get_or n 6 0)
    ++ number_line (spell "stopped-57") (get_or n 7 0)
    ++ number_line (spell "stopped-58") (get_or n 8 0)

unfoldable pub stop_lines : List ℕ → List ℕ
stop_lines n = first_lines n ++ second_lines n ++ third_lines n

unfoldable pub count_lines : Sums → List ℕ
count_lines s =
    number_line (spell "lines") s.lines
    ++ number_line (spell "bad") s.bad
    ++ stop_lines s.stops
    ++ number_line (spell "paid") s.paid

unfoldable pub amount_lines : Sums → List ℕ
amount_lines s =
    signed_line (spell "sum") s.sum
    ++ signed_line (spell "least") s.least
    ++ signed_line (spell "largest") s.largest

-- ---- the whole

-- whether there was a line too many
unfoldable pub outcome_lines : Bool → List ℕ
outcome_lines true = meaning_lines Cause.ManyLines
outcome_lines false = well_lines

unfoldable pub shift_lines : (status : ℕ) (file : List ℕ) (allowance : ℕ) (over : Bool) → Sums → List ℕ
shift_lines status file allowance over s =
    number_line (spell "status") status
    ++ sheet_line file
    ++ outcome_lines over
    ++ number_line (spell "allowance") allowance
    ++ count_lines s
    ++ amount_lines s

-- whether there are too many lines together
unfoldable pub together_lines : Bool → List ℕ
together_lines true = spell "number 46\nmeaning more than 65536 lines together, and so no sums\n"
together_lines false = well_lines

unfoldable pub combined_lines : (status : ℕ) (over : Bool) → Sums → List ℕ
combined_lines status over s =
    number_line (spell "status") status
    ++ together_lines over
    ++ count_lines s
    ++ amount_lines s
