-- What is wrong with the words behind the program's name, and with files that they name.
use Rattle.std.specs.Prelude.{List, ◌++◌, ℕ}
use Rattle.language.specs.Tokens.{spell}
use Rattle.page.specs.Text.{decimal_of}
use Rattle.wording.specs.Fields.{name_words}

-- a word that looks like an option and is none
unfoldable pub strange_text : (word : List ℕ) → List ℕ
strange_text word = spell "slip: `" ++ name_words word ++ spell "` is no option here; slip --help has them\n"

-- a word that is no number up to `most`, where `what` wants one
unfoldable pub no_number_text : (what word : List ℕ) (most : ℕ) → List ℕ
no_number_text what word most =
    spell "slip: " ++ what ++ spell ": `" ++ name_words word ++ spell "` is no number from 0 to " ++ decimal_of most
    ++ spell "\n"

-- before the system's own words for what is wrong with a file
unfoldable pub file_text : (word : List ℕ) → List ℕ
file_text word = spell "slip: `" ++ name_words word ++ spell "`"

unfoldable pub no_report_text : (word : List ℕ) → List ℕ
no_report_text word =
    file_text word ++ spell " is no report of a shift with its sums, as slip shift writes it with --report\n"
