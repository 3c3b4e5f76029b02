-- What is asked and promised of functions and programs: the verdict is what the executable checker of the language
-- answers.
use Rattle.std.specs.Prelude.{Result, Ok, Err, List, ◌∷◌, ◌≡◌, ℕ, ◌+◌, ◌≤◌, ◌<◌, length}
use Rattle.std.proofs.Math.Decide.{dec_le}
use Rattle.language.specs.Sizes.{TOKENS, NODES, TABLE, REFS, FUNCTIONS}
use Rattle.language.specs.Tokens.{Token}
use Rattle.language.specs.Trees.{Ty, refs, TyDiscrete, Param, Def, Program, Scope, empty, push, nearest, size}
use Rattle.language.specs.Types.{Sig, with_def}
use Rattle.language.specs.Faults.{too_many_refs, too_many_functions, function_twice, wrong_body}
use Rattle.language.proofs.Executable.Checks.{Res, ok, bad, after, need}
use Rattle.language.proofs.Executable.Checker.{unbound, infer, take_params, check_def, check}
use Rattle.layout.specs.Table.{OWN, ARITY, BODY, row_word, function_row, without_variables}
use Rattle.layout.specs.Names.{Stand}
use Rattle.layout.specs.Functions.{Headed}
use Rattle.layout.specs.Decode.{ParamsAt, FunctionAt, Holds}
use Rattle.layout.specs.declared.Held.{Held}
use Rattle.numbers.specs.Meanings.{reason_meant}
use Rattle.rules.specs.Sight.{Variables, Functions}
use Rattle.rules.specs.Asked.{Typing, Tells}
use Rattle.phrase_types.specs.Inferred.{Kept, Ready}
use Rattle.rules.specs.Asked.{Fault}

-- that all is fine, or why it is not
abbrev pub Verdict : Type 0
Verdict = Result (Unit {0}) Fault

-- the verdict on something: P where it is fine, and else why it is not
abbrev pub Rules : {A : Type 0} → Verdict → Res A → (A → Type 0) → Type 0
Rules {A} (Ok _) x P = (a : A) × (x ≡ ok a) × P a
Rules (Err e) x P = x ≡ bad (reason_meant e.why) e.place

-- ---- parameters

-- the row of a parameter, whose name is a token
pub record ParameterAt (w : List ℕ) (row : ℕ) : Type 0 where
  pub long : TABLE ≤ length w
  pub inside : row < NODES
  pub name : row_word w row OWN < TOKENS

-- it is bound as variable k, and the others follow; or that ends them all
abbrev pub BoundIs : List Token → List ℕ → ℕ → Scope Ty → Param → List Param → Verdict → Type 0
BoundIs ts w k Γ q qs (Ok _) =
    Variables ts w (k + 1) (push q.called q.type Γ)
    × (take_params (q ∷ qs) Γ ≡ take_params qs (push q.called q.type Γ))
BoundIs ts w k Γ q qs (Err e) = take_params (q ∷ qs) Γ ≡ bad (reason_meant e.why) e.place

-- parameter k, at row `row`, behind the parameters Γ
pub record Bound (w w' : List ℕ) (row k : ℕ) (r : Verdict) : Type 0 where
  pub kept : Kept w w' k
  pub right : (ts : List Token) (count : ℕ) (Γ : Scope Ty) (q : Param) (qs : List Param)
      → Stand (without_variables w) count ts
      → ParamsAt ts (without_variables w) row (q ∷ qs) → Variables ts w k Γ
      → BoundIs ts w' k Γ q qs r

-- all parameters of the function at row `row`
pub record Headings (w : List ℕ) (row : ℕ) : Type 0 where
  pub long : TABLE ≤ length w
  pub last : row + row_word w row ARITY < NODES
  pub names : (k : ℕ) → k < row_word w row ARITY → row_word w (row + k + 1) OWN < TOKENS

-- all are taken, or the first that is wrong is told
pub record Taken (w w' : List ℕ) (row : ℕ) (r : Verdict) : Type 0 where
  pub kept : Kept w w' 0
  pub right : (ts : List Token) (count f : ℕ) (d : Def) → Stand (without_variables w) count ts
      → FunctionAt f ts (without_variables w) row d
      → Rules r (take_params d.params empty) λ Γ. Variables ts w' (length d.params) Γ

-- ---- functions

-- what the checker of the language does with a function before its parameters, and after them
abbrev pub check_head : Scope Sig → Def → Res (Unit {0})
check_head Δ d =
    need (dec_le (size Δ) FUNCTIONS) too_many_functions d.at λ _.
    unbound (nearest d.called Δ) function_twice d.named λ _.
    ok tt

-- after them
abbrev pub check_body : Scope Sig → Scope Ty → Def → Res (Unit {0})
check_body Δ Γ d =
    need (dec_le (refs d.result) REFS) too_many_refs d.at λ _.
    after (infer (with_def Δ d) d.body Γ) λ t.
    need (TyDiscrete t d.result) wrong_body d.at λ _.
    ok tt

-- function k, which is d, is the next to be checked, where Δ has those before it
pub record Next (ts : List Token) (f : ℕ) (p : List ℕ) (k : ℕ) (Δ : Scope Sig) (d : Def) : Type 0 where
  pub count : ℕ
  pub stand : Stand p count ts
  pub few : k < count
  pub before : Functions f ts p k Δ
  pub here : FunctionAt f ts p (function_row p k) d

-- its row, and the names of those before it and its own
pub record Headlines (w : List ℕ) (k row : ℕ) : Type 0 where
  pub long : TABLE ≤ length w
  pub at : row ≡ function_row w k
  pub heads : (j : ℕ) → j ≤ k → Headed w j

-- there is room for it, and its name is new
pub record Fresh (w : List ℕ) (k : ℕ) (r : Verdict) : Type 0 where
  pub right : (ts : List Token) (f : ℕ) (Δ : Scope Sig) (d : Def) → Next ts f (without_variables w) k Δ d
      → Rules r (check_head Δ d) λ _. Unit {0}

-- its body can be checked, with the parameters for variables and itself in sight
pub record Bodied (w : List ℕ) (k row : ℕ) : Type 0 where
  pub long : TABLE ≤ length w
  pub inside : row < NODES
  pub few : k < TOKENS
  pub ready : Ready w (row_word w row BODY) (k + 1) (row_word w row ARITY)

-- its result's type is allowed, and its body has that type
pub record Fitting (w w' : List ℕ) (k row : ℕ) (r : Verdict) : Type 0 where
  pub kept : Kept w w' 0
  pub right : (ts : List Token) (f : ℕ) (Δ : Scope Sig) (Γ : Scope Ty) (d : Def) → Next ts f (without_variables w) k Δ d
      → row ≡ function_row (without_variables w) k → Variables ts w (length d.params) Γ
      → Rules r (check_body Δ Γ d) λ _. Unit {0}

-- the whole function
pub record Listed (w : List ℕ) (k : ℕ) : Type 0 where
  pub tokens : List Token
  pub f : ℕ
  pub functions : Scope Sig
  pub def : Def
  pub long : TABLE ≤ length w
  pub next : Next tokens f (without_variables w) k functions def

-- its verdict
pub record Ruled (w w' : List ℕ) (k : ℕ) (r : Verdict) : Type 0 where
  pub kept : Kept w w' 0
  pub right : (ts : List Token) (f : ℕ) (Δ : Scope Sig) (d : Def) → Next ts f (without_variables w) k Δ d
      → Rules r (check_def Δ d) λ _. Unit {0}

-- ---- programs

-- the whole program's answer
pub record Concluded (w w' : List ℕ) (P : Held) (r : Typing) : Type 0 where
  pub kept : Kept w w' 0
  pub right : (ts : List Token) (p : Program) → Holds ts w P p → Tells r (check p)
