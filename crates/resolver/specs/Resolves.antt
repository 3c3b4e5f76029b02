-- What the functions of this crate ask and promise. The table w stands for all tables that have the same tokens, rows
-- and functions as the one at hand: none of these changes, and the promises hold for each of them.
use Rattle.std.specs.Prelude.{cond, List, [], ◌∷◌, ◌≡◌, ℕ, ◌+◌, ◌≤◌, ◌<◌, eqb, length, get_or}
use Rattle.language.specs.Sizes.{TOKENS, NODES, TABLE}
use Rattle.language.specs.Tokens.{Token, LET, SEMI, WHILE, IF}
use Rattle.language.specs.Trees.{Exp, Def, Program}
use Rattle.language.specs.Grammar.{Reading}
use Rattle.layout.specs.Table.{VARIABLES_AT, OWN, token_value, row_word}
use Rattle.layout.specs.Functions.{Headed}
use Rattle.layout.specs.Decode.{tree_at, args_at, Right, RightArgs, FunctionsAt, Holds}
use Rattle.layout.specs.Slots.{HELD}
use Rattle.layout.specs.Notes.{slot_name, noted, names_in}
use Rattle.layout.specs.Resolved.{parameters_in, counting, Placed, PlacedAll, PlacedDefs, Resolved}
use Rattle.layout.specs.declared.Held.{Held}
use Rattle.resolver.specs.Spans.{Spans, SpansAll, SpansDefs}

-- ---- what is written

-- t has the tokens, rows and functions of w
pub record Alike (w t : List ℕ) : Type 0 where
  pub same : (j : ℕ) → j < VARIABLES_AT → get_or t j 0 ≡ get_or w j 0

-- from t to t' nothing but names from slot `size` on, and notes of tokens from a up to b
pub record Wrote (t t' : List ℕ) (a b size : ℕ) : Type 0 where
  pub long : length t' ≡ length t
  pub alike : Alike t t'
  pub beyond : (j : ℕ) → TABLE ≤ j → get_or t' j 0 ≡ get_or t j 0
  pub names : (k : ℕ) → k < size → slot_name t' k ≡ slot_name t k
  pub notes : (i : ℕ) → i < TOKENS → (a ≤ i → i < b → ⊥) → noted t' i ≡ noted t i

-- ---- trees

-- the functions that can be called have names
pub record Scene (w t : List ℕ) (defs : ℕ) : Type 0 where
  pub long : TABLE ≤ length t
  pub alike : Alike w t
  pub heads : (k : ℕ) → k < defs → Headed w k

-- the tree at a row, where `size` slots are in use: no more than tokens before it
pub record Job (w : List ℕ) (ts : List Token) (f a b : ℕ) (t : List ℕ) (node defs size : ℕ) : Type 0 where
  pub scene : Scene w t defs
  pub right : Right f ts w node
  pub spans : Spans a (tree_at f ts w node) b
  pub room : size ≤ a
  pub high : b ≤ TOKENS

pub record Done (w : List ℕ) (ts : List Token) (f a b : ℕ) (t t' : List ℕ) (node defs size : ℕ) : Type 0 where
  pub placed : Placed w t' defs (names_in t size) (tree_at f ts w node)
  pub wrote : Wrote t t' a b size

-- the arguments or bounds from a row on
pub record JobAll (w : List ℕ) (ts : List Token) (f a b : ℕ) (t : List ℕ) (row defs size : ℕ) : Type 0 where
  pub scene : Scene w t defs
  pub right : RightArgs f ts w row
  pub spans : SpansAll a (args_at f ts w row) b
  pub room : size ≤ a
  pub high : b ≤ TOKENS

pub record DoneAll (w : List ℕ) (ts : List Token) (f a b : ℕ) (t t' : List ℕ) (row defs size : ℕ) : Type 0 where
  pub placed : PlacedAll w t' defs (names_in t size) (args_at f ts w row)
  pub wrote : Wrote t t' a b size

-- what is asked: there is something to do
pub record Placing (t : List ℕ) (node defs size : ℕ) : Type 0 where
  pub w : List ℕ
  pub ts : List Token
  pub f : ℕ
  pub a : ℕ
  pub b : ℕ
  pub job : Job w ts f a b t node defs size

pub record PlacingAll (t : List ℕ) (row defs size : ℕ) : Type 0 where
  pub w : List ℕ
  pub ts : List Token
  pub f : ℕ
  pub a : ℕ
  pub b : ℕ
  pub job : JobAll w ts f a b t row defs size

-- what is promised: whatever it was, it is done
abbrev pub Places : List ℕ → List ℕ → ℕ → ℕ → ℕ → Type 0
Places t t' node defs size =
    (w : List ℕ) (ts : List Token) (f a b : ℕ) → Job w ts f a b t node defs size → Done w ts f a b t t' node defs size

abbrev pub PlacesAll : List ℕ → List ℕ → ℕ → ℕ → ℕ → Type 0
PlacesAll t t' row defs size =
    (w : List ℕ) (ts : List Token) (f a b : ℕ) → JobAll w ts f a b t row defs size
    → DoneAll w ts f a b t t' row defs size

-- the slots that the second part of a node of a kind sees, x being the name behind the node's token
unfoldable pub sees : ℕ → ℕ → List ℕ → List ℕ
sees kind x L =
    cond (eqb kind LET) (x ∷ L)
    (cond (eqb kind SEMI) L (cond (eqb kind WHILE) L (cond (eqb kind IF) L (HELD ∷ L))))

pub record Between (t t' : List ℕ) (node kind size inner : ℕ) : Type 0 where
  pub wrote : Wrote t t' 0 0 size
  pub names : names_in t' inner ≡ sees kind (token_value t (row_word t node OWN + 1)) (names_in t size)
  pub more : size ≤ inner
  pub few : inner ≤ size + 1

pub record Entered (t t' : List ℕ) (node size : ℕ) : Type 0 where
  pub wrote : Wrote t t' 0 0 size
  pub names : names_in t' (size + 3) ≡ counting (token_value t (row_word t node OWN + 1)) (names_in t size)

-- ---- functions

-- the first `count` parameters of the function at a row
pub record Binding (t : List ℕ) (row count : ℕ) : Type 0 where
  pub long : TABLE ≤ length t
  pub inside : row + count < NODES
  pub names : (i : ℕ) → i < count → row_word t (row + 1 + i) OWN < TOKENS

pub record Bound (t t' : List ℕ) (row count : ℕ) : Type 0 where
  pub wrote : Wrote t t' 0 0 0
  pub names : names_in t' count ≡ parameters_in t row count

-- the bodies of functions k, k + 1, .., which are ds, and the last expression
pub record Suite (w : List ℕ) (ts : List Token) (f a b : ℕ) (ds : List Def) (e : Exp) (t : List ℕ) (k defs root : ℕ)
    : Type 0 where
  pub scene : Scene w t defs
  pub few : k + length ds ≡ defs
  pub tokens : length ts ≤ TOKENS
  pub functions : FunctionsAt f ts w k ds
  pub main : tree_at f ts w root ≡ e
  pub right : Right f ts w root
  pub spans : SpansDefs a ds e b
  pub high : b ≤ TOKENS

pub record SuiteDone (w : List ℕ) (a b : ℕ) (ds : List Def) (e : Exp) (t t' : List ℕ) (k defs : ℕ) : Type 0 where
  pub bodies : PlacedDefs w t' defs k ds
  pub main : Placed w t' defs [] e
  pub wrote : Wrote t t' a b 0

pub record Resolving (t : List ℕ) (k defs root : ℕ) : Type 0 where
  pub w : List ℕ
  pub ts : List Token
  pub f : ℕ
  pub a : ℕ
  pub b : ℕ
  pub ds : List Def
  pub e : Exp
  pub suite : Suite w ts f a b ds e t k defs root

abbrev pub Programs : List ℕ → List ℕ → ℕ → ℕ → ℕ → Type 0
Programs t t' k defs root =
    (w : List ℕ) (ts : List Token) (f a b : ℕ) (ds : List Def) (e : Exp) → Suite w ts f a b ds e t k defs root
    → SuiteDone w a b ds e t t' k defs

-- ---- the whole

-- What is asked: the table holds a program that is a reading.
pub record Resolvable (t : List ℕ) (P : Held) : Type 0 where
  pub ts : List Token
  pub program : Program
  pub holds : Holds ts t P program
  pub reading : Reading ts program

-- What is promised: the table holds what it held, and of every name and every call it notes what the runner needs.
pub record Resolves (t t' : List ℕ) (P : Held) : Type 0 where
  pub long : length t' ≡ length t
  pub alike : Alike t t'
  pub beyond : (j : ℕ) → TABLE ≤ j → get_or t' j 0 ≡ get_or t j 0
  pub holds : (ts : List Token) (p : Program) → Holds ts t P p → Holds ts t' P p
  pub resolved : (ts : List Token) (p : Program) → Holds ts t P p → Reading ts p → Resolved t' p
