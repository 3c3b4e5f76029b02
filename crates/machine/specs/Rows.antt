-- What a row of the table says of its operator and its literal.
use Rattle.std.specs.Prelude.{true, false, cond, List, ◌≡◌, ℕ, ◌+◌, ◌*◌, ◌≤◌, ◌<◌, eqb, Float, length}
use Rattle.std.specs.Float.{binary64}
use Rattle.std.specs.Float.Ieee.{of_bits}
use Rattle.language.specs.Sizes.{TOKENS, NODES, TABLE, LARGEST}
use Rattle.language.specs.Tokens.{NUMBER, FLOAT_NUMBER, TRUE, FALSE, PLUS, MINUS, STAR}
use Rattle.language.specs.Tokens.{SLASH, AND, OR, LESS, BECOMES, NOT, BANG}
use Rattle.language.specs.Trees.{Literal, whole, truth, trivial, decimal, Unary, minus, not, fetch, new}
use Rattle.language.specs.Trees.{Binary, add, sub, mul, div, less, equal, and, or, assign}
use Rattle.layout.specs.Table.{KIND, OWN, token_value, token_high, row_word}
use Rattle.layout.specs.Values.{HALF}
use Rattle.layout.specs.Rows.{PREFIX}

-- what a row's own token carries
abbrev pub carried : List ℕ → ℕ → ℕ
carried w row = token_value w (row_word w row OWN)

-- and as a float, whose bits are two words
abbrev pub float_carried : List ℕ → ℕ → Float
float_carried w row = of_bits binary64 (HALF * token_high w (row_word w row OWN) + carried w row)

-- ---- operators, by the kind of their row

unfoldable pub unary_of : ℕ → Unary
unary_of k =
    cond (eqb k (PREFIX + MINUS)) minus
    (cond (eqb k (PREFIX + NOT)) not (cond (eqb k (PREFIX + BANG)) fetch new))

unfoldable pub binary_of : ℕ → Binary
binary_of k =
    cond (eqb k BECOMES) assign (cond (eqb k AND) and (cond (eqb k OR) or (cond (eqb k PLUS) add (cond (eqb k MINUS) sub
    (cond (eqb k STAR) mul (cond (eqb k SLASH) div (cond (eqb k LESS) less equal)))))))

abbrev pub OnNumbers : ℕ → Type 0
OnNumbers k = (k ≡ BECOMES → ⊥) × (k ≡ AND → ⊥) × (k ≡ OR → ⊥)

-- ---- literals

unfoldable pub literal_of : List ℕ → ℕ → Literal
literal_of w row =
    cond (eqb (row_word w row KIND) NUMBER) (whole (carried w row))
    (cond (eqb (row_word w row KIND) FLOAT_NUMBER) (decimal (float_carried w row))
    (cond (eqb (row_word w row KIND) TRUE) (truth true) (cond (eqb (row_word w row KIND) FALSE) (truth false) trivial)))

pub record LiteralRow (w : List ℕ) (row : ℕ) : Type 0 where
  pub long : TABLE ≤ length w
  pub inside : row < NODES
  pub token : row_word w row KIND ≡ NUMBER → row_word w row OWN < TOKENS
  pub small : row_word w row KIND ≡ NUMBER → carried w row ≤ LARGEST
  pub pointed : row_word w row KIND ≡ FLOAT_NUMBER → row_word w row OWN < TOKENS
