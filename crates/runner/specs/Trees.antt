-- Which tree a row of the table is, and what is noted of its names and calls: all that the runner reads in rows.
use Rattle.std.specs.Prelude.{Bool, ◌≡◌, List, ◌∷◌, ℕ, zero, suc, ◌+◌, ◌≤◌, ◌<◌, length}
use Rattle.language.specs.Sizes.{TOKENS, NODES, PARAMETERS, TABLE}
use Rattle.language.specs.Tokens.{Token, NAME, LET, IF, WHILE, SEMI, LPAR, LBRACE}
use Rattle.language.specs.Trees.{Name, Literal, Unary, Binary, Exp, name, literal, unary, binary, follow, group, block}
use Rattle.language.specs.Trees.{call, bind, branch, loop, counted, Exps, last, more, Def, Scope, empty, push, PUTCHAR}
use Rattle.language.specs.Meaning.{Fun, putchar, defined}
use Rattle.layout.specs.Table.{KIND, OWN, FIRST, SECOND, THIRD, EXPRESSION, NEXT}
use Rattle.layout.specs.Table.{ARITY, BODY, token_value, row_word, function_row}
use Rattle.layout.specs.Names.{Stand, Named}
use Rattle.layout.specs.Rows.{CALL, literal_kind, unary_kind, binary_kind, range_kind}
use Rattle.layout.specs.Functions.{function_name, Headed}
use Rattle.layout.specs.Decode.{ParamsAt}
use Rattle.layout.specs.Slots.{HELD}
use Rattle.layout.specs.Notes.{noted}
use Rattle.layout.specs.Resolved.{slot_of, callee_row, parameters_in, counting}
use Rattle.machine.specs.Rows.{literal_of, LiteralRow}

pub record Head (t : List ℕ) (row kind i : ℕ) : Type 0 where
  pub inside : row < NODES
  pub kind_is : row_word t row KIND ≡ kind
  pub own_is : row_word t row OWN ≡ i

-- token i of the table is the name x
pub record NameAt (ts : List Token) (t : List ℕ) (i : ℕ) (x : Name) : Type 0 where
  pub inside : i < TOKENS
  pub named : Named ts (token_value t i) x

unfoldable pub count : Exps → ℕ
count last = 0
count (more e es) = suc (count es)

-- k slots above L in which something waits
unfoldable pub helds : ℕ → List ℕ → List ℕ
helds zero L = L
helds (suc k) L = HELD ∷ helds k L

-- a Block has a slot more than other nodes: it begins with a call's arguments, and the call is active, too
unfoldable pub slack : Exp → ℕ
slack (block i e) = 1
slack (name i x) = 0
slack (literal i l) = 0
slack (unary i o e) = 0
slack (binary i o e f) = 0
slack (follow i e f) = 0
slack (group i e) = 0
slack (call i f es) = 0
slack (bind i x e f) = 0
slack (branch i c e f) = 0
slack (loop i c e) = 0
slack (counted i x b es e) = 0

-- The first `defs` functions can be called.
module _ (ts : List Token) (t : List ℕ) (defs : ℕ) where
  mutual
    -- the tree at a row, which begins where its frame has the slots L
    pub data At : List ℕ → ℕ → Exp → Type 0 where
      at_name : {L : List ℕ} {row i : ℕ} {x : Name}
          → Head t row NAME i → NameAt ts t i x → noted t i ≡ slot_of (token_value t i) L → At L row (name i x)
      at_literal : {L : List ℕ} {row i : ℕ} {l : Literal}
          → Head t row (literal_kind l) i → literal_of t row ≡ l → LiteralRow t row → At L row (literal i l)
      at_unary : {L : List ℕ} {row i : ℕ} {o : Unary} {e : Exp}
          → Head t row (unary_kind o) i → At L (row_word t row FIRST) e → At L row (unary i o e)
      at_binary : {L : List ℕ} {row i : ℕ} {o : Binary} {e f : Exp}
          → Head t row (binary_kind o) i → At L (row_word t row FIRST) e → At (HELD ∷ L) (row_word t row SECOND) f
          → At L row (binary i o e f)
      at_follow : {L : List ℕ} {row i : ℕ} {e f : Exp}
          → Head t row SEMI i → At L (row_word t row FIRST) e → At L (row_word t row SECOND) f
          → At L row (follow i e f)
      at_group : {L : List ℕ} {row i : ℕ} {e : Exp}
          → Head t row LPAR i → At L (row_word t row FIRST) e → At L row (group i e)
      at_block : {L : List ℕ} {row i : ℕ} {e : Exp}
          → Head t row LBRACE i → At L (row_word t row FIRST) e → At L row (block i e)
      at_call : {L : List ℕ} {row i : ℕ} {x : Name} {es : Exps}
          → Head t row CALL i → NameAt ts t i x → count es ≤ PARAMETERS → Args L (row_word t row FIRST) es
          → noted t i ≡ callee_row t defs (token_value t i) → At L row (call i x es)
      at_bind : {L : List ℕ} {row i : ℕ} {x : Name} {e f : Exp}
          → Head t row LET i → NameAt ts t (i + 1) x → At L (row_word t row FIRST) e
          → At (token_value t (i + 1) ∷ L) (row_word t row SECOND) f → At L row (bind i x e f)
      at_branch : {L : List ℕ} {row i : ℕ} {c e f : Exp}
          → Head t row IF i → At L (row_word t row FIRST) c → At L (row_word t row SECOND) e
          → At L (row_word t row THIRD) f → At L row (branch i c e f)
      at_loop : {L : List ℕ} {row i : ℕ} {c e : Exp}
          → Head t row WHILE i → At L (row_word t row FIRST) c → At L (row_word t row SECOND) e
          → At L row (loop i c e)
      at_counted : {L : List ℕ} {row i : ℕ} {x : Name} {b : Bool} {es : Exps} {e : Exp}
          → Head t row (range_kind b) i → NameAt ts t (i + 1) x → count es ≤ PARAMETERS
          → Args L (row_word t row FIRST) es → At (counting (token_value t (i + 1)) L) (row_word t row SECOND) e
          → At L row (counted i x b es e)

    -- the arguments from a row on, or the bounds
    pub data Args : List ℕ → ℕ → Exps → Type 0 where
      args_last : {L : List ℕ} {r : ℕ} → r ≡ 0 → Args L r last
      args_more : {L : List ℕ} {r : ℕ} {e : Exp} {es : Exps}
          → (r ≡ 0 → ⊥) → r < NODES → At L (row_word t r EXPRESSION) e → Args (HELD ∷ L) (row_word t r NEXT) es
          → Args L r (more e es)

  -- ---- functions

  -- row r is the function f
  pub record Function (r : ℕ) (f : Def) : Type 0 where
    pub inside : r < NODES
    pub few : length f.params ≤ PARAMETERS
    pub arity : row_word t r ARITY ≡ length f.params
    pub last_param : r + length f.params < NODES
    pub params : ParamsAt ts t (r + 1) f.params
    pub block : slack f.body ≡ 1
    pub at : At (parameters_in t r (length f.params)) (row_word t r BODY) f.body

  -- the first n functions of the table, after `putchar`
  pub data Defines : ℕ → Scope Fun → Type 0 where
    defines_none : Defines 0 (push PUTCHAR putchar empty)
    defines_more : {n : ℕ} {fs : Scope Fun} {f : Def}
        → Headed t n → Named ts (function_name t n) f.called → Function (function_row t n) f → Defines n fs
        → Defines (suc n) (push f.called (defined f.params f.body) fs)

  -- the tokens and the functions
  pub record Scene (fs : Scope Fun) : Type 0 where
    pub long : TABLE ≤ length t
    pub stand : Stand t (length ts) ts
    pub functions : Defines defs fs
