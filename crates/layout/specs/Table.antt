-- Table memory: where tokens, rows, functions and variables lie, and what is written there.
-- This and all of this crate's specs is vocabulary for contracts between layers: the language itself does not know it.
use Rattle.std.specs.Prelude.{cond, List, ℕ, zero, suc, ◌+◌, ◌*◌, ◌/◌, ◌%◌, ltb, get_or, set}
use Rattle.language.specs.Sizes.{TOKENS}

abbrev pub ROWS_AT : ℕ
ROWS_AT = 4 * TOKENS

abbrev pub FUNCTIONS_AT : ℕ
FUNCTIONS_AT = 9 * TOKENS

abbrev pub VARIABLES_AT : ℕ
VARIABLES_AT = 10 * TOKENS

-- ---- the words of a row

-- of every row its kind and its own token
abbrev pub KIND : ℕ
KIND = 0

abbrev pub OWN : ℕ
OWN = 1

-- of a node its children, as far as it has them; a call's first is its first argument
abbrev pub FIRST : ℕ
FIRST = 2

abbrev pub SECOND : ℕ
SECOND = 3

abbrev pub THIRD : ℕ
THIRD = 4

-- of a `for` the first of its bounds, which are arguments, and its body
abbrev pub START : ℕ
START = 2

abbrev pub PASS : ℕ
PASS = 3

-- of an argument its expression and the next argument
abbrev pub EXPRESSION : ℕ
EXPRESSION = 2

abbrev pub NEXT : ℕ
NEXT = 3

-- of a parameter its type's number
abbrev pub TYPE : ℕ
TYPE = 2

-- of a function how many parameters it has, its result's type's number, and its body
abbrev pub ARITY : ℕ
ARITY = 2

abbrev pub RESULT : ℕ
RESULT = 3

abbrev pub BODY : ℕ
BODY = 4

-- ---- reading

-- word k of token i
abbrev pub token_word : List ℕ → ℕ → ℕ → ℕ
token_word w i k = get_or w (4 * i + k) 0

-- places and ends are less than this, so a word has room for both
abbrev pub SPANS : ℕ
SPANS = 65536

-- behind its kind its place and the byte behind its last, in one word
abbrev pub token_place : List ℕ → ℕ → ℕ
token_place w i = token_word w i 1 % SPANS

abbrev pub token_end : List ℕ → ℕ → ℕ
token_end w i = token_word w i 1 / SPANS

-- and what it is worth: a number's value, a name's number, or both halves of a float number's bits
abbrev pub token_high : List ℕ → ℕ → ℕ
token_high w i = token_word w i 2

abbrev pub token_value : List ℕ → ℕ → ℕ
token_value w i = token_word w i 3

-- the kind of token i of the first `count`, 0 past the last
unfoldable pub kind_of : List ℕ → ℕ → ℕ → ℕ
kind_of w count i = cond (ltb i count) (get_or w (4 * i) 0) 0

-- word k of row i
abbrev pub row_word : List ℕ → ℕ → ℕ → ℕ
row_word w i k = get_or w (ROWS_AT + 5 * i + k) 0

abbrev pub function_row : List ℕ → ℕ → ℕ
function_row w k = get_or w (FUNCTIONS_AT + k) 0

-- of variable i its name's number and its type's number
abbrev pub variable_name : List ℕ → ℕ → ℕ
variable_name w i = get_or w (VARIABLES_AT + 2 * i) 0

abbrev pub variable_type : List ℕ → ℕ → ℕ
variable_type w i = get_or w (VARIABLES_AT + 2 * i + 1) 0

-- ---- writing

unfoldable pub put_token : List ℕ → ℕ → ℕ → ℕ → ℕ → ℕ → ℕ → List ℕ
put_token w i kind place end high value =
    set (set (set (set w (4 * i) kind) (4 * i + 1) (SPANS * end + place)) (4 * i + 2) high) (4 * i + 3) value

unfoldable pub put_row : List ℕ → ℕ → ℕ → ℕ → ℕ → ℕ → ℕ → List ℕ
put_row w i kind own first second third =
    set
    (set
    (set (set (set w (ROWS_AT + 5 * i) kind) (ROWS_AT + 5 * i + OWN) own) (ROWS_AT + 5 * i + FIRST) first)
    (ROWS_AT + 5 * i + SECOND) second)
    (ROWS_AT + 5 * i + THIRD) third

unfoldable pub put_function : List ℕ → ℕ → ℕ → List ℕ
put_function w k row = set w (FUNCTIONS_AT + k) row

unfoldable pub put_variable : List ℕ → ℕ → ℕ → ℕ → List ℕ
put_variable w i name number = set (set w (VARIABLES_AT + 2 * i) name) (VARIABLES_AT + 2 * i + 1) number

-- ---- clearing

-- n words from word a on become 0
unfoldable pub zeros : List ℕ → ℕ → ℕ → List ℕ
zeros w a zero = w
zeros w a (suc n) = zeros (set w a 0) (a + 1) n

-- rows and functions become 0; variables do
abbrev pub without_rows : List ℕ → List ℕ
without_rows w = zeros w ROWS_AT (6 * TOKENS)

abbrev pub without_variables : List ℕ → List ℕ
without_variables w = zeros w VARIABLES_AT (2 * TOKENS)
