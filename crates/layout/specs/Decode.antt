-- The reading that the rows of a table stand for, read back from the words. The written tokens ts give the spellings
-- and numbers, which the words of rows do not hold. `f` bounds how far down the reading back goes.
use Rattle.std.specs.Prelude.{Bool, true, false, cond, ◌||◌, List, [], ◌∷◌, ◌≡◌, ℕ, zero, suc, ◌+◌, ◌≤◌, ◌<◌, eqb, length}
use Rattle.std.proofs.Math.Option.{Option, none, some}
use Rattle.language.specs.Sizes.{NODES, TABLE}
use Rattle.language.specs.Tokens.{Token, Entry, ◌is◌, entry, At, value_at, spelling_at}
use Rattle.language.specs.Tokens.{NAME, NUMBER, FLOAT_NUMBER, UPTO, THROUGH}
use Rattle.language.specs.Decimals.{float_of}
use Rattle.language.specs.Tokens.{LET, WHILE, IF, REF, NOT, TRUE, FALSE, TT, PLUS, MINUS, STAR}
use Rattle.language.specs.Tokens.{SLASH, AND, OR, LESS, EQUAL, BECOMES, BANG, SEMI, LPAR, LBRACE}
use Rattle.language.specs.Trees.{Literal, whole, truth, trivial, decimal, Unary, minus, not, fetch, new, Binary, add}
use Rattle.language.specs.Trees.{sub, mul, div, less, equal, Exp, name, literal, unary, binary, follow, group}
use Rattle.language.specs.Trees.{block, call, bind, branch, loop, counted, Exps, last, more, Param, Def, Program}
use Rattle.language.specs.Meaning.{type_number}
use Rattle.layout.specs.Table.{KIND, OWN, FIRST, SECOND, THIRD, START, PASS}
use Rattle.layout.specs.Table.{EXPRESSION, NEXT, TYPE, ARITY, RESULT, BODY}
use Rattle.layout.specs.Table.{row_word, function_row}
use Rattle.layout.specs.Names.{Stand}
use Rattle.layout.specs.Rows.{PREFIX, CALL, below}
use Rattle.layout.specs.declared.Held.{Held}

-- ---- what kind of node a row is

pub data Shape : Type 0 where
  a_name a_number a_float a_follow a_group a_block a_call a_let an_if a_while : Shape
  a_constant : Literal → Shape
  a_for : Bool → Shape
  a_unary : Unary → Shape
  a_binary : Binary → Shape

abbrev pub shapes : List (Entry ℕ Shape)
shapes =
    NAME is a_name ∷ NUMBER is a_number ∷ FLOAT_NUMBER is a_float
    ∷ TRUE is a_constant (truth true) ∷ FALSE is a_constant (truth false) ∷ TT is a_constant trivial
    ∷ SEMI is a_follow ∷ LPAR is a_group ∷ LBRACE is a_block ∷ CALL is a_call
    ∷ LET is a_let ∷ IF is an_if ∷ WHILE is a_while ∷ UPTO is a_for false ∷ THROUGH is a_for true
    ∷ (PREFIX + MINUS) is a_unary minus ∷ (PREFIX + NOT) is a_unary not
    ∷ (PREFIX + BANG) is a_unary fetch ∷ (PREFIX + REF) is a_unary new
    ∷ PLUS is a_binary add ∷ MINUS is a_binary sub ∷ STAR is a_binary mul ∷ SLASH is a_binary div
    ∷ AND is a_binary Binary.and ∷ OR is a_binary Binary.or
    ∷ LESS is a_binary less ∷ EQUAL is a_binary equal ∷ BECOMES is a_binary Binary.assign ∷ []

unfoldable pub shape_of : ℕ → Option Shape
shape_of k = entry shapes k

-- how many of a shape's three words name a row below it, the first ones; a call's first names its arguments, a `for`'s
-- its bounds
abbrev pub children : Shape → ℕ
children a_name = 0
children a_number = 0
children a_float = 0
children (a_constant l) = 0
children a_call = 0
children (a_for b) = 0
children (a_unary o) = 1
children a_group = 1
children a_block = 1
children (a_binary o) = 2
children a_follow = 2
children a_let = 2
children a_while = 2
children an_if = 3

-- ---- trees

-- the node of a shape at token i, over its three parts or its arguments
unfoldable pub build : List Token → Shape → ℕ → Exp → Exp → Exp → Exps → Exp
build ts a_name i a b c es = name i (spelling_at ts i)
build ts a_number i a b c es = literal i (whole (value_at ts i))
build ts a_float i a b c es = literal i (decimal (float_of (spelling_at ts i)))
build ts (a_constant l) i a b c es = literal i l
build ts (a_unary o) i a b c es = unary i o a
build ts (a_binary o) i a b c es = binary i o a b
build ts a_follow i a b c es = follow i a b
build ts a_group i a b c es = group i a
build ts a_block i a b c es = block i a
build ts a_call i a b c es = call i (spelling_at ts i) es
build ts a_let i a b c es = bind i (spelling_at ts (i + 1)) a b
build ts an_if i a b c es = branch i a b c
build ts a_while i a b c es = loop i a b
build ts (a_for r) i a b c es = counted i (spelling_at ts (i + 1)) r es b

unfoldable pub build_if : List Token → Option Shape → ℕ → Exp → Exp → Exp → Exps → Exp
build_if ts none i a b c es = literal i trivial
build_if ts (some s) i a b c es = build ts s i a b c es

unfoldable mutual
  -- the tree of row i
  pub tree_at : ℕ → List Token → List ℕ → ℕ → Exp
  tree_at zero ts w i = literal 0 trivial
  tree_at (suc f) ts w i =
      build_if ts (shape_of (row_word w i KIND)) (row_word w i OWN) (tree_at f ts w (row_word w i FIRST))
      (tree_at f ts w (row_word w i SECOND))
      (tree_at f ts w (row_word w i THIRD)) (args_at f ts w (row_word w i FIRST))

  -- the arguments from row i on; row 0 is none
  pub args_at : ℕ → List Token → List ℕ → ℕ → Exps
  args_at zero ts w i = last
  args_at (suc f) ts w i = cond (eqb i 0) last
      (more (tree_at f ts w (row_word w i EXPRESSION)) (args_at f ts w (row_word w i NEXT)))

-- the kinds of a `for`
unfoldable pub counts : ℕ → Bool
counts k = eqb k UPTO || eqb k THROUGH

-- ---- rows that are whole: every part is a row before its own, and the tokens are of the kinds that the tree needs

-- row j stands before row i and is right
abbrev pub Part : (ℕ → Type 0) → ℕ → ℕ → Type 0
Part right i j = (j < i) × right j

-- what a `for` needs: the name behind it, its bounds and its body
pub record Counts (right rights : ℕ → Type 0) (ts : List Token) (w : List ℕ) (i : ℕ) : Type 0 where
  pub named : At ts (row_word w i OWN + 1) NAME
  pub bounds : (row_word w i START ≤ i) × rights (row_word w i START)
  pub body : Part right i (row_word w i PASS)

pub record Node (right rights : ℕ → Type 0) (ts : List Token) (w : List ℕ) (i : ℕ) : Type 0 where
  pub inside : i < NODES
  pub shape : Shape
  pub known : shape_of (row_word w i KIND) ≡ some shape
  pub named : row_word w i KIND ≡ NAME → At ts (row_word w i OWN) NAME
  pub valued : row_word w i KIND ≡ NUMBER → At ts (row_word w i OWN) NUMBER
  pub pointed : row_word w i KIND ≡ FLOAT_NUMBER → At ts (row_word w i OWN) FLOAT_NUMBER
  pub called : row_word w i KIND ≡ CALL → At ts (row_word w i OWN) NAME
  pub bound : row_word w i KIND ≡ LET → At ts (row_word w i OWN + 1) NAME
  pub first : 1 ≤ children shape → Part right i (row_word w i FIRST)
  pub second : 2 ≤ children shape → Part right i (row_word w i SECOND)
  pub third : 3 ≤ children shape → Part right i (row_word w i THIRD)
  -- not behind it: a call without arguments has row 0 here, and may be row 0 itself
  pub args : row_word w i KIND ≡ CALL → (row_word w i FIRST ≤ i) × rights (row_word w i FIRST)
  pub loops : counts (row_word w i KIND) ≡ true → Counts right rights ts w i

pub record Argument (right rights : ℕ → Type 0) (w : List ℕ) (i : ℕ) : Type 0 where
  pub inside : i < NODES
  pub exp : Part right i (row_word w i EXPRESSION)
  pub next : Part rights i (row_word w i NEXT)

unfoldable mutual
  pub Right : ℕ → List Token → List ℕ → ℕ → Type 0
  Right zero ts w i = ⊥
  Right (suc f) ts w i = Node (λ j. Right f ts w j) (λ j. RightArgs f ts w j) ts w i

  pub RightArgs : ℕ → List Token → List ℕ → ℕ → Type 0
  RightArgs zero ts w i = i ≡ 0
  RightArgs (suc f) ts w i = (i ≡ 0 → ⊥) → Argument (λ j. Right f ts w j) (λ j. RightArgs f ts w j) w i

-- ---- functions and programs

-- the rows from r on are the parameters ps
pub data ParamsAt (ts : List Token) (w : List ℕ) : ℕ → List Param → Type 0 where
  params_none : {r : ℕ} → ParamsAt ts w r []
  params_more : {r : ℕ} {p : Param} {ps : List Param}
      → row_word w r OWN ≡ p.at → At ts p.at NAME → p.called ≡ spelling_at ts p.at
      → row_word w r TYPE ≡ type_number p.type
      → ParamsAt ts w (r + 1) ps → ParamsAt ts w r (p ∷ ps)

-- row r is the function d
pub record FunctionAt (f : ℕ) (ts : List Token) (w : List ℕ) (r : ℕ) (d : Def) : Type 0 where
  pub inside : r < NODES
  pub at : row_word w r OWN ≡ d.at
  pub named : d.named ≡ d.at + 1
  pub name : At ts (d.at + 1) NAME
  pub called : d.called ≡ spelling_at ts (d.at + 1)
  pub count : row_word w r ARITY ≡ length d.params
  pub params : ParamsAt ts w (r + 1) d.params
  pub last_param : r + length d.params < NODES
  pub result : row_word w r RESULT ≡ type_number d.result
  pub body : tree_at f ts w (row_word w r BODY) ≡ d.body
  pub right : Right f ts w (row_word w r BODY)
  pub block : row_word w (row_word w r BODY) KIND ≡ LBRACE
  pub room : length d.params + below d.body < NODES

-- functions k, k + 1, .. are the functions ds
pub data FunctionsAt (f : ℕ) (ts : List Token) (w : List ℕ) : ℕ → List Def → Type 0 where
  functions_none : {k : ℕ} → FunctionsAt f ts w k []
  functions_more : {k : ℕ} {d : Def} {ds : List Def}
      → FunctionAt f ts w (function_row w k) d → FunctionsAt f ts w (k + 1) ds → FunctionsAt f ts w k (d ∷ ds)

-- The table holds the program p, a reading of the tokens ts, as P says: this is what the reader promises to the checker
-- and the runner.
pub record Holds (ts : List Token) (w : List ℕ) (P : Held) (p : Program) : Type 0 where
  pub depth : ℕ
  pub long : TABLE ≤ length w
  pub stand : Stand w P.count ts
  pub defined : P.functions ≡ length p.defs
  pub few : P.functions ≤ P.count
  pub functions : FunctionsAt depth ts w 0 p.defs
  pub main : tree_at depth ts w P.root ≡ p.main
  pub right : Right depth ts w P.root
  pub room : below p.main < NODES
