-- Lines, and parts of them, that both reports have: a file's name; a name and a value on a line.
use Rattle.std.specs.Prelude.{ℤ, List, ◌++◌, ℕ}
use Rattle.language.specs.Tokens.{spell}
use Rattle.page.specs.Characters.{is_readable}
use Rattle.page.specs.Text.{decimal_of, all_shown}
use Rattle.wording.specs.Values.{signed_words}

-- a file's name, so that it can be seen
unfoldable pub name_words : List ℕ → List ℕ
name_words file = all_shown (is_readable file) file

-- a name, a blank, and the value
abbrev pub value_line : (name value : List ℕ) → List ℕ
value_line name value = name ++ spell " " ++ value ++ spell "\n"

unfoldable pub number_line : (name : List ℕ) → ℕ → List ℕ
number_line name n = value_line name (decimal_of n)

unfoldable pub signed_line : (name : List ℕ) → ℤ → List ℕ
signed_line name z = value_line name (signed_words z)
