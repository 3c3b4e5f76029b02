-- What slip says of itself: how it is asked, in short and at length, and the sizes that it keeps to.
use Rattle.std.specs.Prelude.{List, [], ◌∷◌, ◌++◌, ℕ}
use Prim.Native.String.{String}
use Rattle.language.specs.Sizes.{SOURCE, TOKENS, FUNCTIONS, PARAMETERS, REFS, ALLOWANCE, ACTIVE, CELLS, TABLE, WORK}
use Rattle.language.specs.Tokens.{spell}
use Rattle.wording.specs.Fields.{number_line}

-- each line with its end
unfoldable pub all_lines : List String → List ℕ
all_lines [] = []
all_lines (l ∷ ls) = spell l ++ spell "\n" ++ all_lines ls

-- ---- how it is asked

unfoldable pub command_lines : List ℕ
command_lines = all_lines (
    "slip RATE-SHEET PICKS RATE         sets pay(PICKS,RATE) under the sheet and runs it"
    ∷ "slip check RATE-SHEET              checks a rate sheet, with a call under it, and runs nothing"
    ∷ "slip check --whole SHEET           checks a whole sheet as it stands"
    ∷ "slip profile RATE-SHEET            tells how many units a rate sheet can use, if it must finish; runs nothing"
    ∷ "slip profile --whole SHEET         the same of a whole sheet as it stands"
    ∷ "slip run SHEET [ALLOWANCE]         runs a whole sheet as it stands, by default with 1000000 units"
    ∷ "slip write SHEET                   writes a whole sheet out again, its tokens with one space between them"
    ∷ "slip store SHEET                   writes the stored form of a whole sheet, lines of hexadecimal"
    ∷ "slip check-stored FILE             checks a stored sheet"
    ∷ "slip run-stored FILE [ALLOWANCE]   runs a stored sheet"
    ∷ "slip shift BOOK LINES [ALLOWANCE]  pays each line of a shift by the book, and tells what they come to"
    ∷ "slip shift --combine REPORT ..     tells what the reports of a shift's parts come to together"
    ∷ "slip --help                        this text"
    ∷ "slip --version                     editions and sizes"
    ∷ "./slip --prove [WORDS]             proves the program first, and from then on uses the proved one"
    ∷ [])

unfoldable pub option_lines : List ℕ
option_lines = all_lines (
    ""
    ∷ "--edition NUMBER                   the edition of the language that the sheet is written in, 1 or 2; 1 without it"
    ∷ "--report FILE                      writes the report for machines too, a name and a value on each line"
    ∷ "--                                 no word behind it is an option"
    ∷ [])

unfoldable pub other_lines : List ℕ
other_lines = all_lines (
    ""
    ∷ "A sheet is a file; - is standard input. PICKS and RATE are 0 to 2147483647, ALLOWANCE is 0 to 1000000."
    ∷ "A stored sheet may have 131071 bytes; its places are told as lines, counted from 1."
    ∷ "A book is a sheet of functions, pay among them. A line of a shift is a loom in 4 digits of hexadecimal, then"
    ∷ "picks and rate in 8 each, in capitals, and a line feed; there may be 65536 of them. ALLOWANCE is for each."
    ∷ "A shift may be paid in parts, cut at a line's end: --report writes the report of each, and --combine takes them."
    ∷ "What the sheet prints goes to standard output, the report to standard error; the report of a shift goes to"
    ∷ "standard output, and what the book prints is dropped. Status: 0 paid or passed, 1 refused or stopped, 2 where"
    ∷ "the words do not serve, or a file cannot be read or an output written."
    ∷ [])

unfoldable pub help_text : List ℕ
help_text = command_lines ++ option_lines ++ other_lines

-- where the words do not serve
unfoldable pub usage_text : List ℕ
usage_text = all_lines (
    "use: slip RATE-SHEET PICKS RATE, slip check [--whole] SHEET, slip profile [--whole] SHEET,"
    ∷ "     slip run SHEET [ALLOWANCE], slip write SHEET, slip store SHEET, slip check-stored FILE,"
    ∷ "     slip run-stored FILE [ALLOWANCE], slip shift BOOK LINES [ALLOWANCE], slip shift --combine REPORT .."
    ∷ [])

-- ---- editions and sizes

-- how many bytes a sheet may print
abbrev pub OUTPUT : ℕ
OUTPUT = 65536

unfoldable pub sheet_sizes : List ℕ
sheet_sizes =
    number_line (spell "source") SOURCE
    ++ number_line (spell "tokens") TOKENS
    ++ number_line (spell "functions") FUNCTIONS
    ++ number_line (spell "parameters") PARAMETERS
    ++ number_line (spell "refs") REFS

unfoldable pub run_sizes : List ℕ
run_sizes =
    number_line (spell "allowance") ALLOWANCE
    ++ number_line (spell "active") ACTIVE
    ++ number_line (spell "cells") CELLS
    ++ number_line (spell "table") TABLE
    ++ number_line (spell "work") WORK
    ++ number_line (spell "output") OUTPUT

unfoldable pub version_text : List ℕ
version_text = spell "slip of Undovilaza\neditions 1 2\n" ++ sheet_sizes ++ run_sizes
