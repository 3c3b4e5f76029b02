-- The report of a shift for people: counts, and amounts in pence and in pounds and pence.
use Rattle.std.specs.Prelude.{eqb, ℤ, get_or, cond, List, [], ◌++◌, ℕ}
use Rattle.language.specs.Numbers.{stop_number}
use Rattle.language.specs.Tokens.{spell}
use Rattle.numbers.specs.Meanings.{stop_meant}
use Rattle.numbers.specs.declared.Stop.{Stop}
use Rattle.page.specs.Money.{pounds_text}
use Rattle.page.specs.Text.{decimal_of}
use Rattle.tally.specs.declared.sums.Sums.{Sums}
use Rattle.wording.specs.Values.{signed_by, signed_words}
use Rattle.wording.specs.Words.{stop_words}

abbrev pub pounds_words : ℤ → List ℕ
pounds_words z = signed_by pounds_text z

unfoldable pub count_line : (name : List ℕ) → ℕ → List ℕ
count_line name n = name ++ decimal_of n ++ spell "\n"

unfoldable pub amount_line : (name : List ℕ) → ℤ → List ℕ
amount_line name z = name ++ signed_words z ++ spell " pence, " ++ pounds_words z ++ spell " pounds\n"

unfoldable pub progress_line : ℕ → List ℕ
progress_line n = spell "slip: " ++ decimal_of n ++ spell " lines so far\n"

-- ---- the stops that came, each with its words and how many lines came to it

unfoldable pub stop_line : Stop → (lines : ℕ) → List ℕ
stop_line why n =
    cond (eqb n 0) []
    (spell "number " ++ decimal_of (stop_number (stop_meant why)) ++ spell "  " ++ decimal_of n ++ spell " "
    ++ stop_words why ++ spell "\n")

unfoldable pub first_lines : List ℕ → List ℕ
first_lines n =
    stop_line Stop.NoUnit (get_or n 0 0)
    ++ stop_line Stop.TooDeep (get_or n 1 0)
    ++ stop_line Stop.OutOfRange (get_or n 2 0)

unfoldable pub second_lines : List ℕ → List ℕ
second_lines n =
    stop_line Stop.ZeroDivisor (get_or n 3 0)
    ++ stop_line Stop.CellFreed (get_or n 4 0)
    ++ stop_line Stop.CellsFull (get_or n 5 0)

unfoldable pub third_lines : List ℕ → List ℕ
third_lines n =
    stop_line Stop.NotAByte (get_or n 6 0)
    ++ stop_line Stop.OutputFull (get_or n 7 0)
    ++ stop_line Stop.ZeroStep (get_or n 8 0)

unfoldable pub stop_lines : List ℕ → List ℕ
stop_lines n = first_lines n ++ second_lines n ++ third_lines n

-- ---- the whole

unfoldable pub count_lines : Sums → List ℕ
count_lines s =
    count_line (spell "lines      ") s.lines
    ++ count_line (spell "bad lines  ") s.bad
    ++ stop_lines s.stops
    ++ count_line (spell "paid       ") s.paid

unfoldable pub amount_lines : Sums → List ℕ
amount_lines s =
    amount_line (spell "sum        ") s.sum
    ++ amount_line (spell "least      ") s.least
    ++ amount_line (spell "largest    ") s.largest

unfoldable pub shift_text : Sums → List ℕ
shift_text s = count_lines s ++ amount_lines s
