-- A reading in rows: what the table becomes when a tree, a function or a program is laid down, the parts before their
-- whole.
use Rattle.std.specs.Prelude.{Bool, true, false, List, [], ◌∷◌, ℕ, ◌+◌, length}
use Rattle.language.specs.Tokens.{Token, NAME, NUMBER, FLOAT_NUMBER, DEF, LET, WHILE, IF, REF, NOT, TRUE, FALSE, TT}
use Rattle.language.specs.Tokens.{UPTO, THROUGH, PLUS, MINUS, STAR, SLASH, AND, OR}
use Rattle.language.specs.Tokens.{LESS, EQUAL, BECOMES, BANG, SEMI, LPAR, LBRACE}
use Rattle.language.specs.Trees.{Literal, whole, truth, trivial, decimal, Unary}
use Rattle.language.specs.Trees.{minus, not, fetch, new, Binary, add, sub}
use Rattle.language.specs.Trees.{mul, div, less, equal, and, or, assign, Exp, name, literal, unary, binary, follow}
use Rattle.language.specs.Trees.{group, block, call, bind, branch, loop, counted, Exps, last, more, Param, Def, Program}
use Rattle.language.specs.Meaning.{type_number}
use Rattle.layout.specs.Table.{put_row, put_function}
use Rattle.layout.specs.declared.Held.{Held}

-- ---- the kinds of rows: a node's is its own token's, PREFIX more before an operand

abbrev pub PREFIX : ℕ
PREFIX = 64

abbrev pub CALL : ℕ
CALL = 40

abbrev pub ARGUMENT : ℕ
ARGUMENT = 41

abbrev pub PARAMETER : ℕ
PARAMETER = 42

unfoldable pub literal_kind : Literal → ℕ
literal_kind (whole n) = NUMBER
literal_kind (truth true) = TRUE
literal_kind (truth false) = FALSE
literal_kind trivial = TT
literal_kind (decimal x) = FLOAT_NUMBER

unfoldable pub unary_kind : Unary → ℕ
unary_kind minus = PREFIX + MINUS
unary_kind not = PREFIX + NOT
unary_kind fetch = PREFIX + BANG
unary_kind new = PREFIX + REF

unfoldable pub binary_kind : Binary → ℕ
binary_kind add = PLUS
binary_kind sub = MINUS
binary_kind mul = STAR
binary_kind div = SLASH
binary_kind less = LESS
binary_kind equal = EQUAL
binary_kind and = AND
binary_kind or = OR
binary_kind assign = BECOMES

-- that of a `for` tells whether its end is a pass too
unfoldable pub range_kind : Bool → ℕ
range_kind false = UPTO
range_kind true = THROUGH

-- ---- how many rows

-- those below the root of a tree; those of a list of arguments
unfoldable mutual
  pub below : Exp → ℕ
  below (name i x) = 0
  below (literal i l) = 0
  below (unary i o e) = below e + 1
  below (binary i o e f) = below e + 1 + below f + 1
  below (follow i e f) = below e + 1 + below f + 1
  below (group i e) = below e + 1
  below (block i e) = below e + 1
  below (call i x es) = under es
  below (bind i x e f) = below e + 1 + below f + 1
  below (branch i c e f) = below c + 1 + below e + 1 + below f + 1
  below (loop i c e) = below c + 1 + below e + 1
  below (counted i x b es e) = under es + below e + 1

  pub under : Exps → ℕ
  under last = 0
  under (more e es) = below e + 1 + under es + 1

-- the row of a list of arguments that is laid from row f on; 0 for none
unfoldable pub head : ℕ → Exps → ℕ
head f last = 0
head f (more e es) = f + below e + 1 + under es

-- ---- trees

-- An argument's row has the token of its call or its `for`, its expression's row and the next argument's.
unfoldable mutual
  pub lay : List ℕ → ℕ → Exp → List ℕ
  lay w f (name i x) = put_row w f NAME i 0 0 0
  lay w f (literal i l) = put_row w f (literal_kind l) i 0 0 0
  lay w f (unary i o e) = put_row (lay w f e) (f + below e + 1) (unary_kind o) i (f + below e) 0 0
  lay w f (binary i o e u) =
      put_row (lay (lay w f e) (f + below e + 1) u) (f + below e + 1 + below u + 1) (binary_kind o) i (f + below e)
      (f + below e + 1 + below u) 0
  lay w f (follow i e u) =
      put_row (lay (lay w f e) (f + below e + 1) u) (f + below e + 1 + below u + 1) SEMI i (f + below e)
      (f + below e + 1 + below u) 0
  lay w f (group i e) = put_row (lay w f e) (f + below e + 1) LPAR i (f + below e) 0 0
  lay w f (block i e) = put_row (lay w f e) (f + below e + 1) LBRACE i (f + below e) 0 0
  lay w f (call i x es) = put_row (lay_all w f i es) (f + under es) CALL i (head f es) 0 0
  lay w f (bind i x e u) =
      put_row (lay (lay w f e) (f + below e + 1) u) (f + below e + 1 + below u + 1) LET i (f + below e)
      (f + below e + 1 + below u) 0
  lay w f (branch i c e u) =
      put_row (lay (lay (lay w f c) (f + below c + 1) e) (f + below c + 1 + below e + 1) u)
      (f + below c + 1 + below e + 1 + below u + 1) IF i
      (f + below c) (f + below c + 1 + below e) (f + below c + 1 + below e + 1 + below u)
  lay w f (loop i c e) =
      put_row (lay (lay w f c) (f + below c + 1) e) (f + below c + 1 + below e + 1) WHILE i (f + below c)
      (f + below c + 1 + below e) 0
  lay w f (counted i x b es e) =
      put_row (lay (lay_all w f i es) (f + under es) e) (f + under es + below e + 1) (range_kind b) i (head f es)
      (f + under es + below e) 0

  pub lay_all : List ℕ → ℕ → ℕ → Exps → List ℕ
  lay_all w f i last = w
  lay_all w f i (more e es) =
      put_row (lay_all (lay w f e) (f + below e + 1) i es) (f + below e + 1 + under es) ARGUMENT i (f + below e)
      (head (f + below e + 1) es) 0

-- ---- functions and programs

-- a parameter's row has its type's number
unfoldable pub lay_params : List ℕ → ℕ → List Param → List ℕ
lay_params w f [] = w
lay_params w f (p ∷ ps) = lay_params (put_row w f PARAMETER p.at (type_number p.type) 0 0) (f + 1) ps

-- a function's row, then its parameters', then its body's: how many parameters, the result's type, the body's root
unfoldable pub lay_def : List ℕ → ℕ → Def → List ℕ
lay_def w f d =
    put_row (lay (lay_params w (f + 1) d.params) (f + 1 + length d.params) d.body) f DEF d.at
    (length d.params)
    (type_number d.result) (f + 1 + length d.params + below d.body)

unfoldable pub def_rows : Def → ℕ
def_rows d = 1 + length d.params + below d.body + 1

unfoldable pub defs_rows : List Def → ℕ
defs_rows [] = 0
defs_rows (d ∷ ds) = def_rows d + defs_rows ds

-- the functions in their order, the first of them function k, each behind the other
unfoldable pub lay_defs : List ℕ → ℕ → ℕ → List Def → List ℕ
lay_defs w f k [] = w
lay_defs w f k (d ∷ ds) = lay_defs (put_function (lay_def w f d) k f) (f + def_rows d) (k + 1) ds

-- the functions, then the last expression
unfoldable pub lay_program : List ℕ → Program → List ℕ
lay_program w p = lay (lay_defs w 0 0 p.defs) (defs_rows p.defs) p.main

-- the row of the last expression
unfoldable pub main_row : Program → ℕ
main_row p = defs_rows p.defs + below p.main

-- how a table holds the program p of the tokens ts, once it is laid down
abbrev pub held_as : List Token → Program → Held
held_as ts p = record { count = length ts; functions = length p.defs; root = main_row p }
