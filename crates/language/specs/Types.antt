-- Which readings have a type (S045 to S054). The rules are 003's; `Typed Δ Γ e t` is its G;D |- e : t. They know three
-- sizes, of functions, parameters and `ref`, and are said under any σ; the box's are at the end.
use Rattle.std.specs.Prelude.{Bool, List, [], ◌∷◌, map, ◌≡◌, ℕ, ◌≤◌, ◌<◌, Float}
use Rattle.std.proofs.Math.Option.{none, some}
use Rattle.language.specs.Sizes.{Sizes, BOX}
use Rattle.language.specs.Trees.{Name, Ty, int, bool, unit, float, ref, refs, whole, truth, trivial}
use Rattle.language.specs.Trees.{decimal, Unary, minus, not, fetch, new, Binary, add, sub, mul, div}
use Rattle.language.specs.Trees.{less, equal, and, or, assign, Exp, name, literal, unary, binary}
use Rattle.language.specs.Trees.{follow, group, block, call, bind, branch, loop, counted, Exps, last}
use Rattle.language.specs.Trees.{more, Param, Def, Program, Scope, empty, push, nearest, size, PUTCHAR}

-- ---- operators (003's unoptype and binoptype; S052)

pub data UnopTypeUnder (σ : Sizes) : Unary → Ty → Ty → Type 0 where
  u_minus : UnopTypeUnder σ minus int int
  u_not : UnopTypeUnder σ not bool bool
  u_fetch : {t : Ty} → UnopTypeUnder σ fetch (ref t) t
  u_new : {t : Ty} → refs t < σ.refs → UnopTypeUnder σ new t (ref t)

-- 003's arithmetic types (R08.4)
pub data Arithmetic : Ty → Type 0 where
  of_int : Arithmetic int
  of_float : Arithmetic float

pub data BinopType : Binary → Ty → Ty → Ty → Type 0 where
  b_add : {t : Ty} → Arithmetic t → BinopType add t t t
  b_sub : {t : Ty} → Arithmetic t → BinopType sub t t t
  b_mul : {t : Ty} → Arithmetic t → BinopType mul t t t
  b_div : {t : Ty} → Arithmetic t → BinopType div t t t
  b_less : {t : Ty} → Arithmetic t → BinopType less t t bool
  b_equal : BinopType equal int int bool
  b_and : BinopType and bool bool bool
  b_or : BinopType or bool bool bool
  b_assign : {t : Ty} → BinopType assign (ref t) t unit

-- R12.5: start and end, and a step if there is one
pub data Bounds : List Ty → Type 0 where
  two : Bounds (int ∷ int ∷ [])
  three : Bounds (int ∷ int ∷ int ∷ [])

-- ---- expressions

-- what a function takes and gives
pub record Sig : Type 0 where
  pub takes : List Ty
  pub gives : Ty

-- Δ has the functions in sight, Γ the variables; each is looked up in its own (S047 to S049)
module _ (σ : Sizes) (Δ : Scope Sig) where
  mutual
    pub data TypedUnder : Scope Ty → Exp → Ty → Type 0 where
      t_name : {Γ : Scope Ty} {i : ℕ} {x : Name} {t : Ty} → nearest x Γ ≡ some t → TypedUnder Γ (name i x) t
      t_whole : {Γ : Scope Ty} {i n : ℕ} → TypedUnder Γ (literal i (whole n)) int
      -- S046
      t_truth : {Γ : Scope Ty} {i : ℕ} {b : Bool} → TypedUnder Γ (literal i (truth b)) bool
      t_trivial : {Γ : Scope Ty} {i : ℕ} → TypedUnder Γ (literal i trivial) unit
      t_decimal : {Γ : Scope Ty} {i : ℕ} {x : Float} → TypedUnder Γ (literal i (decimal x)) float
      t_unary : {Γ : Scope Ty} {i : ℕ} {o : Unary} {e : Exp} {t u : Ty}
          → TypedUnder Γ e t → UnopTypeUnder σ o t u → TypedUnder Γ (unary i o e) u
      t_binary : {Γ : Scope Ty} {i : ℕ} {o : Binary} {e f : Exp} {t u v : Ty}
          → TypedUnder Γ e t → TypedUnder Γ f u → BinopType o t u v → TypedUnder Γ (binary i o e f) v
      -- S051
      t_follow : {Γ : Scope Ty} {i : ℕ} {e f : Exp} {t : Ty} → TypedUnder Γ e unit → TypedUnder Γ f t
          → TypedUnder Γ (follow i e f) t
      -- S054
      t_group : {Γ : Scope Ty} {i : ℕ} {e : Exp} {t : Ty} → TypedUnder Γ e t → TypedUnder Γ (group i e) t
      t_block : {Γ : Scope Ty} {i : ℕ} {e : Exp} {t : Ty} → TypedUnder Γ e t → TypedUnder Γ (block i e) t
      t_call : {Γ : Scope Ty} {i : ℕ} {f : Name} {es : Exps} {ts : List Ty} {t : Ty}
          → TypedAllUnder Γ es ts → nearest f Δ ≡ some record { takes = ts; gives = t } → TypedUnder Γ (call i f es) t
      t_bind : {Γ : Scope Ty} {i : ℕ} {x : Name} {e f : Exp} {t u : Ty}
          → TypedUnder Γ e t → TypedUnder (push x t Γ) f u → TypedUnder Γ (bind i x e f) u
      -- S053
      t_branch : {Γ : Scope Ty} {i : ℕ} {c e f : Exp} {t : Ty}
          → TypedUnder Γ c bool → TypedUnder Γ e t → TypedUnder Γ f t → TypedUnder Γ (branch i c e f) t
      t_loop : {Γ : Scope Ty} {i : ℕ} {c e : Exp} → TypedUnder Γ c bool → TypedUnder Γ e unit
          → TypedUnder Γ (loop i c e) unit
      -- R12.5: its name is in sight in the body alone
      t_counted : {Γ : Scope Ty} {i : ℕ} {x : Name} {b : Bool} {es : Exps} {e : Exp} {ts : List Ty}
          → TypedAllUnder Γ es ts → Bounds ts → TypedUnder (push x int Γ) e unit
          → TypedUnder Γ (counted i x b es e) unit

    pub data TypedAllUnder : Scope Ty → Exps → List Ty → Type 0 where
      t_last : {Γ : Scope Ty} → TypedAllUnder Γ last []
      t_more : {Γ : Scope Ty} {e : Exp} {es : Exps} {t : Ty} {ts : List Ty}
          → TypedUnder Γ e t → TypedAllUnder Γ es ts → TypedAllUnder Γ (more e es) (t ∷ ts)

-- ---- functions and programs

abbrev pub sig : Def → Sig
sig d = record { takes = map (λ (p : Param). p.type) d.params; gives = d.result }

-- the functions that d's body and all after it see: the earlier ones and d itself (S048)
abbrev pub with_def : Scope Sig → Def → Scope Sig
with_def Δ d = push d.called (sig d) Δ

-- `putchar` is there before all others; it is not one of those that are counted, so there is room for one more while
-- the functions in sight, it included, are no more than the size
abbrev pub given : Scope Sig
given = push PUTCHAR record { takes = int ∷ []; gives = int } empty

module _ (σ : Sizes) where
  -- `TakesUnder σ Γ ps Γ'`: the parameters ps, one after another, are fit to be bound, and Γ' is Γ with them
  pub data TakesUnder : Scope Ty → List Param → Scope Ty → Type 0 where
    takes_none : {Γ : Scope Ty} → TakesUnder Γ [] Γ
    takes_more : {Γ Γ' : Scope Ty} {p : Param} {ps : List Param}
        → size Γ < σ.parameters → nearest p.called Γ ≡ none → refs p.type ≤ σ.refs
        → TakesUnder (push p.called p.type Γ) ps Γ' → TakesUnder Γ (p ∷ ps) Γ'

  abbrev pub RoomUnder : Scope Sig → Type 0
  RoomUnder Δ = size Δ ≤ σ.functions

  -- the function d is right, where Δ has the functions before it (S050: no name defined twice, no parameter named
  -- twice)
  pub data FineUnder (Δ : Scope Sig) (d : Def) : Type 0 where
    fine : {Γ : Scope Ty}
        → RoomUnder Δ → nearest d.called Δ ≡ none → TakesUnder empty d.params Γ → refs d.result ≤ σ.refs
        → TypedUnder σ (with_def Δ d) Γ d.body d.result → FineUnder Δ d

  pub data TypedFromUnder : Scope Sig → List Def → Exp → Ty → Type 0 where
    typed_main : {Δ : Scope Sig} {e : Exp} {t : Ty} → TypedUnder σ Δ empty e t → TypedFromUnder Δ [] e t
    typed_def : {Δ : Scope Sig} {d : Def} {ds : List Def} {e : Exp} {t : Ty}
        → FineUnder Δ d → TypedFromUnder (with_def Δ d) ds e t → TypedFromUnder Δ (d ∷ ds) e t

  abbrev pub HasTypeUnder : Program → Ty → Type 0
  HasTypeUnder p t = TypedFromUnder given p.defs p.main t

-- ---- under the box's sizes

abbrev pub UnopType : Unary → Ty → Ty → Type 0
UnopType = UnopTypeUnder BOX

abbrev pub Typed : Scope Sig → Scope Ty → Exp → Ty → Type 0
Typed = TypedUnder BOX

abbrev pub TypedAll : Scope Sig → Scope Ty → Exps → List Ty → Type 0
TypedAll = TypedAllUnder BOX

abbrev pub Takes : Scope Ty → List Param → Scope Ty → Type 0
Takes = TakesUnder BOX

abbrev pub Room : Scope Sig → Type 0
Room = RoomUnder BOX

abbrev pub Fine : Scope Sig → Def → Type 0
Fine = FineUnder BOX

abbrev pub TypedFrom : Scope Sig → List Def → Exp → Ty → Type 0
TypedFrom = TypedFromUnder BOX

abbrev pub HasType : Program → Ty → Type 0
HasType = HasTypeUnder BOX
