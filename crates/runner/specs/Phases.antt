-- The phases of a frame: for which part of its node it waits; and the key of its slots.
use Rattle.std.specs.Prelude.{Bool, true, false, cond, ◌≡◌, ℕ, eqb, leb}
use Rattle.language.specs.Tokens.{FLOAT_NUMBER, LET, WHILE, IF, PLUS, BECOMES, SEMI, LPAR, LBRACE}
use Rattle.layout.specs.Rows.{PREFIX}

-- the last part, whose value is the node's
abbrev pub LAST : ℕ
LAST = 0

-- the operand; the left side; the right side
abbrev pub UNARY : ℕ
UNARY = 1

abbrev pub LEFT : ℕ
LEFT = 2

abbrev pub RIGHT : ℕ
RIGHT = 3

-- what stands before `;`; what a Block has inside; what a `let` binds; the condition
abbrev pub BEFORE : ℕ
BEFORE = 4

abbrev pub INSIDE : ℕ
INSIDE = 5

abbrev pub BOUND : ℕ
BOUND = 6

abbrev pub CONDITION : ℕ
CONDITION = 7

-- a test and a pass of a `while`
abbrev pub TEST : ℕ
TEST = 8

abbrev pub PASS : ℕ
PASS = 9

abbrev pub ARGUMENT : ℕ
ARGUMENT = 10

-- below all nodes: the whole
abbrev pub WHOLE : ℕ
WHOLE = 11

-- a pass of a `for`
abbrev pub COUNTED : ℕ
COUNTED = 12

-- the key of every slot of a frame: none is sought by it
abbrev pub NAMELESS : ℕ
NAMELESS = 0

-- a node of this kind waits for its first part, and in which phase
unfoldable pub waits : ℕ → Bool
waits k =
    cond (eqb k FLOAT_NUMBER) false
    (cond (leb PLUS k) true (cond (eqb k LET) true (cond (eqb k IF) true (eqb k WHILE))))

unfoldable pub phase_of : ℕ → ℕ
phase_of k =
    cond (eqb k LPAR) LAST (cond (eqb k LBRACE) INSIDE (cond (eqb k SEMI) BEFORE (cond (eqb k LET) BOUND
    (cond (eqb k IF) CONDITION (cond (eqb k WHILE) TEST (cond (leb PREFIX k) UNARY LEFT))))))

-- the kinds of operators between two operands
unfoldable pub operates : ℕ → Bool
operates k = cond (leb PLUS k) (leb k BECOMES) false

-- none of the phases of operators, `;`, Blocks, calls and `for`s, nor the last part
pub record Controls (p : ℕ) : Type 0 where
  pub last : p ≡ LAST → ⊥
  pub right : p ≡ RIGHT → ⊥
  pub left : p ≡ LEFT → ⊥
  pub unary : p ≡ UNARY → ⊥
  pub before : p ≡ BEFORE → ⊥
  pub inside : p ≡ INSIDE → ⊥
  pub argument : p ≡ ARGUMENT → ⊥
  pub counted : p ≡ COUNTED → ⊥
