-- A value in words; of a float also its bits.
use Rattle.std.specs.Prelude.{Bool, true, false, List, [], ◌++◌, ℤ, pos, negsuc, ℕ, suc}
use Rattle.std.specs.Float.{binary64}
use Rattle.std.specs.Float.Ieee.{to_bits}
use Rattle.language.specs.State.{Value, number, float, flag, nothing, cell}
use Rattle.language.specs.Tokens.{spell}
use Rattle.page.specs.Floats.{float_text, bits_text}
use Rattle.page.specs.Text.{decimal_of}

-- a number in the words that f has for its distance from 0, and a dash before it where it is below; `negsuc n` is
-- -(n + 1)
unfoldable pub signed_by : (ℕ → List ℕ) → ℤ → List ℕ
signed_by f (pos n) = f n
signed_by f (negsuc n) = spell "-" ++ f (suc n)

abbrev pub signed_words : ℤ → List ℕ
signed_words z = signed_by decimal_of z

unfoldable pub truth_words : Bool → List ℕ
truth_words true = spell "true"
truth_words false = spell "false"

unfoldable pub cell_words : ℕ → List ℕ
cell_words b = spell "cell " ++ decimal_of b

unfoldable pub value_words : Value → List ℕ
value_words (number z) = signed_words z
value_words (float x) = float_text (to_bits binary64 x)
value_words (flag b) = truth_words b
value_words nothing = spell "tt"
value_words (cell b) = cell_words b

unfoldable pub bits_line : ℕ → List ℕ
bits_line b = spell "bits " ++ bits_text b ++ spell "\n"

unfoldable pub bits_words : Value → List ℕ
bits_words (number z) = []
bits_words (float x) = bits_line (to_bits binary64 x)
bits_words (flag b) = []
bits_words nothing = []
bits_words (cell b) = []

unfoldable pub value_lines : Value → List ℕ
value_lines v = spell "value " ++ value_words v ++ spell "\n" ++ bits_words v
