-- What the functions that call each other ask and promise: the answer of a node, and of a list of expressions, is what
-- the executable checker of the language answers, whatever the words stand for.
use Rattle.std.specs.Prelude.{Option, None, Some, Result, Ok, Err, Bool, ◌&&◌, List, ◌≡◌, ℕ, ◌+◌, ◌≤◌, ◌<◌, length}
use Rattle.language.specs.Sizes.{NODES, TABLE}
use Rattle.language.specs.Tokens.{Token}
use Rattle.language.specs.Trees.{Ty, Scope}
use Rattle.language.specs.Types.{Sig}
use Rattle.language.specs.Faults as Faults
use Rattle.language.proofs.Executable.Checks.{Res, ok, bad}
use Rattle.language.proofs.Executable.Checker.{infer, infers}
use Rattle.layout.specs.Table.{OWN, token_value, row_word, variable_name, variable_type, without_variables}
use Rattle.layout.specs.Rows.{below, under}
use Rattle.layout.specs.Decode.{tree_at, args_at, Right, RightArgs}
use Rattle.numbers.specs.Meanings.{reason_meant}
use Rattle.rules.specs.Sight.{Variables, find_variable, InSight, Readable}
use Rattle.rules.specs.Asked.{Typing, Tells, suits}
use Rattle.rules.specs.Asked.{Fault}
use Rattle.numbers.specs.declared.Reason.TheVariants.{NoBinding}
use Rattle.rules.specs.declared.sight.Taker.{Taker}
use Rattle.phrase_types.specs.declared.expressions.Passed.{Passed}

-- what a step leaves: all but the variables, and the first `binds` of these
pub record Kept (w w' : List ℕ) (binds : ℕ) : Type 0 where
  pub long : length w' ≡ length w
  pub rest : without_variables w' ≡ without_variables w
  pub names : (i : ℕ) → i < binds → variable_name w' i ≡ variable_name w i
  pub types : (i : ℕ) → i < binds → variable_type w' i ≡ variable_type w i

-- The words w, which without variables are p, stand for something whole at row i, over the tokens ts, with the
-- functions Δ and the variables Γ in sight.
pub record Stands (Whole : ℕ → List Token → List ℕ → ℕ
    → Type 0) (p w : List ℕ) (i seen binds : ℕ) (ts : List Token) (f : ℕ) (Δ : Scope Sig) (Γ : Scope Ty) : Type 0 where
  pub depth : ℕ
  pub sight : InSight ts depth p seen Δ
  pub whole : Whole f ts p i
  pub scope : Variables ts w binds Γ

-- ---- nodes

-- a node can be checked: it is whole, and there is room for the variables of its tree
pub record Ready (w : List ℕ) (node seen binds : ℕ) : Type 0 where
  pub tokens : List Token
  pub depth : ℕ
  pub functions : Scope Sig
  pub variables : Scope Ty
  pub long : TABLE ≤ length w
  pub stands : Stands Right (without_variables w) w node seen binds tokens depth functions variables
  pub room : binds + below (tree_at depth tokens (without_variables w) node) < NODES

-- the answer r is the written checker's, whatever the words stand for
abbrev pub Told : List ℕ → List ℕ → ℕ → ℕ → ℕ → Typing → Type 0
Told p w node seen binds r =
    (ts : List Token) (f : ℕ) (Δ : Scope Sig) (Γ : Scope Ty) → Stands Right p w node seen binds ts f Δ Γ
    → Tells r (infer Δ (tree_at f ts p node) Γ)

-- what is left and what is told
pub record Inferred (w w' : List ℕ) (node seen binds : ℕ) (r : Typing) : Type 0 where
  pub kept : Kept w w' binds
  pub right : Told (without_variables w) w node seen binds r

-- a name's answer, by the type's number that was found
abbrev pub looked : Option ℕ → ℕ → Typing
looked (Some n) i = Ok n
looked None i = Err record { why = NoBinding; place = i }

-- the answer of the name at row `node`
abbrev pub name_answer : List ℕ → ℕ → ℕ → Typing
name_answer w node binds = looked (find_variable w (token_value w (row_word w node OWN)) binds) (row_word w node OWN)

-- ---- lists: the arguments of a call, the bounds of a `for`

-- what is answered of them, or the fault that is told instead
abbrev pub Passing : Type 0
Passing = Result Passed Fault

-- Of expressions that c takes, k of which come before: how many there are with those, and whether they suit, as those
-- did or did not (b).
pub data TellsAll (w : List ℕ) (c : Taker) (k : ℕ) (b : Bool) : Passing → Res (List Ty) → Type 0 where
  tells_types : {n : ℕ} {s : Bool} {ts : List Ty} → n ≡ k + length ts → s ≡ (b && suits w c k ts)
      → TellsAll w c k b (Ok record { count = n; suited = s }) (ok ts)
  tells_wrong : {e : Fault} {q : Faults.Reason} → reason_meant e.why ≡ q → TellsAll w c k b (Err e) (bad q e.place)

-- they can be checked, k of the list's before them
pub record ReadyAll (w : List ℕ) (row seen binds : ℕ) (c : Taker) (k : ℕ) : Type 0 where
  pub tokens : List Token
  pub depth : ℕ
  pub functions : Scope Sig
  pub variables : Scope Ty
  pub long : TABLE ≤ length w
  pub stands : Stands RightArgs (without_variables w) w row seen binds tokens depth functions variables
  pub room : binds + under (args_at depth tokens (without_variables w) row) < NODES
  pub readable : Readable (without_variables w) c
  pub few : k + row < NODES

-- their answer is the written checker's
abbrev pub ToldAll : List ℕ → List ℕ → ℕ → ℕ → ℕ → Taker → ℕ → Bool → Passing → Type 0
ToldAll p w row seen binds c k b r =
    (ts : List Token) (f : ℕ) (Δ : Scope Sig) (Γ : Scope Ty) → Stands RightArgs p w row seen binds ts f Δ Γ
    → TellsAll p c k b r (infers Δ (args_at f ts p row) Γ)

-- what is left and what is told
pub record InferredAll (w w' : List ℕ) (row seen binds : ℕ) (c : Taker) (k : ℕ) (b : Bool) (r : Passing) : Type 0 where
  pub kept : Kept w w' binds
  pub right : ToldAll (without_variables w) w row seen binds c k b r
