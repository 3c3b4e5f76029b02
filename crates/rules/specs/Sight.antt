-- What is in sight: the variables and functions that the words stand for, and how each is found by its name's number.
use Rattle.std.specs.Prelude.{cond, List, [], ◌∷◌, ◌≡◌, ℕ, zero, suc, ◌+◌, ◌≤◌, ◌<◌, eqb, ltb}
use Rattle.std.specs.Prelude as P
use Rattle.std.proofs.Math.Option.{Option, none, some}
use Rattle.language.specs.Sizes.{TOKENS, NODES}
use Rattle.language.specs.Tokens.{Token}
use Rattle.language.specs.Trees.{Name, Ty, int, Def, Scope, empty, push}
use Rattle.language.specs.Types.{Sig, sig, with_def, given}
use Rattle.language.specs.Meaning.{type_number}
use Rattle.layout.specs.Table.{TYPE, ARITY, row_word, function_row, variable_name, variable_type}
use Rattle.layout.specs.Names.{Stand, Named}
use Rattle.layout.specs.Functions.{find_function}
use Rattle.layout.specs.Decode.{FunctionAt}
use Rattle.rules.specs.declared.sight.Callee.{Callee}
use Rattle.rules.specs.declared.sight.Taker.{Taker}

-- ---- variables

-- the first n variables of the table are those of Γ, the nearest last
pub data Variables (ts : List Token) (w : List ℕ) : ℕ → Scope Ty → Type 0 where
  variables_none : Variables ts w 0 empty
  variables_more : {n m : ℕ} {x : Name} {t : Ty} {Γ : Scope Ty}
      → m ≡ suc n → Named ts (variable_name w n) x → variable_type w n ≡ type_number t → Variables ts w n Γ
      → Variables ts w m (push x t Γ)

-- the type's number of the nearest of the first n variables whose name has the number x
unfoldable pub find_variable : List ℕ → ℕ → ℕ → P.Option ℕ
find_variable w x zero = P.None
find_variable w x (suc n) = cond (eqb x (variable_name w n)) (P.Some (variable_type w n)) (find_variable w x n)

-- ---- functions

-- the first n functions of the table, and `putchar` before them, are those of Δ
pub data Functions (f : ℕ) (ts : List Token) (w : List ℕ) : ℕ → Scope Sig → Type 0 where
  functions_given : Functions f ts w 0 given
  functions_more : {n m : ℕ} {d : Def} {Δ : Scope Sig}
      → m ≡ suc n → FunctionAt f ts w (function_row w n) d → Functions f ts w n Δ → Functions f ts w m (with_def Δ d)

-- the tokens ts, and the functions Δ in sight
pub record InSight (ts : List Token) (f : ℕ) (w : List ℕ) (seen : ℕ) (Δ : Scope Sig) : Type 0 where
  pub count : ℕ
  pub stand : Stand w count ts
  pub few : seen ≤ count
  pub functions : Functions f ts w seen Δ

-- whom a call of the name with the number x means, by the row of the function that was found
abbrev pub callee_by : ℕ → P.Option ℕ → Callee
callee_by x (P.Some r) = Callee.Function r
callee_by x P.None = cond (eqb x TOKENS) Callee.Putchar Callee.Nobody

-- where the first n functions are in sight
unfoldable pub callee_in : List ℕ → ℕ → ℕ → Callee
callee_in w x n = callee_by x (find_function w x n)

-- what is in sight under a name is this callee
abbrev pub Means : ℕ → List Token → List ℕ → Callee → Option Sig → Type 0
Means f ts w (Callee.Function r) o = (d : Def) × FunctionAt f ts w r d × (o ≡ some (sig d))
Means f ts w Callee.Putchar o = o ≡ some record { takes = int ∷ []; gives = int }
Means f ts w Callee.Nobody o = o ≡ none

-- the rows of a callee's head are rows
abbrev pub Rowed : List ℕ → Callee → Type 0
Rowed w (Callee.Function r) = r + row_word w r ARITY < NODES
Rowed w Callee.Putchar = Unit {0}
Rowed w Callee.Nobody = Unit {0}

-- the type's number of each argument that a callee takes; 0, which is no type's, where it takes none
abbrev pub wanted_in : List ℕ → Callee → ℕ → ℕ
wanted_in w (Callee.Function r) k = cond (ltb k (row_word w r ARITY)) (row_word w (r + k + 1) TYPE) 0
wanted_in w Callee.Putchar k = cond (eqb k 0) (type_number int) 0
wanted_in w Callee.Nobody k = 0

-- ---- lists

-- what is wanted of a list can be read
abbrev pub Readable : List ℕ → Taker → Type 0
Readable w (Taker.Call c) = Rowed w c
Readable w Taker.For = Unit {0}

-- the type's number of each expression of a list: a call's arguments are its callee's, and the bounds of a `for` ints
abbrev pub expected_in : List ℕ → Taker → ℕ → ℕ
expected_in w (Taker.Call c) k = wanted_in w c k
expected_in w Taker.For k = type_number int
