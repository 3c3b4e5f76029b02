-- Functions by their names: where each name stands, and the newest function that has one.
use Rattle.std.specs.Prelude.{Option, None, Some, cond, List, ℕ, zero, suc, ◌+◌, ◌<◌, eqb}
use Rattle.language.specs.Sizes.{TOKENS, NODES}
use Rattle.layout.specs.Table.{OWN, token_value, row_word, function_row}

-- function k's name is the token behind its `def`
abbrev pub function_name : List ℕ → ℕ → ℕ
function_name w k = token_value w (row_word w (function_row w k) OWN + 1)

-- function k has a row, and its name is a token
pub record Headed (w : List ℕ) (k : ℕ) : Type 0 where
  pub few : k < TOKENS
  pub row : function_row w k < NODES
  pub name : row_word w (function_row w k) OWN + 1 < TOKENS

-- the row of the newest of the first n functions whose name has the number x
unfoldable pub find_function : List ℕ → ℕ → ℕ → Option ℕ
find_function w x zero = None
find_function w x (suc n) = cond (eqb x (function_name w n)) (Some (function_row w n)) (find_function w x n)
