-- A type in words, by its number: what it is of, and as many `ref` as it has, which are 15 at most.
use Rattle.std.specs.Prelude.{eqb, cond, List, [], ◌++◌, ℕ, zero, suc, ◌/◌, ◌%◌, min}
use Rattle.language.specs.Tokens.{spell}

unfoldable pub base_words : ℕ → List ℕ
base_words n =
    cond (eqb n 1) (spell "int")
    (cond (eqb n 2) (spell "bool")
    (cond (eqb n 4) (spell "float") (spell "unit")))

unfoldable pub ref_words : ℕ → List ℕ
ref_words zero = []
ref_words (suc k) = spell " ref" ++ ref_words k

unfoldable pub type_words : (type_number : ℕ) → List ℕ
type_words n = base_words (n % 8) ++ ref_words (min (n / 8) 15)

unfoldable pub type_line : (type_number : ℕ) → List ℕ
type_line n = spell "type " ++ type_words n ++ spell "\n"
