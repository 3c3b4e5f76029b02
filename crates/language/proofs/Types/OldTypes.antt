-- The rules of types as they were before there were floats (R08.8): arithmetic and `<` took ints alone, and no literal had a point. What
-- had a type has it. Operators of one operand, parameters and what a function may see are as they are now, and are not said again.
use mathlib.Core.Bool.{Bool}
use mathlib.Core.List.{List, [], ◌∷◌}
use mathlib.Core.Option.{none, some}
use mathlib.Core.Path.{◌≡◌}
use Prim.Native.Nat.{ℕ, ◌≤◌}
use Rattle.language.specs.Sizes.{Sizes}
use Rattle.language.specs.Trees.{Name, Ty, int, bool, unit, ref, refs, whole, truth, trivial, Unary, Binary, add, sub, mul, div, less, equal}
use Rattle.language.specs.Trees.{and, or, assign, Exp, name, literal, unary, binary, follow, group, block, call, bind, branch, loop, Exps}
use Rattle.language.specs.Trees.{last, more, Def, Program, Scope, empty, push, nearest}
use Rattle.language.specs.Types.{UnopTypeUnder, of_int, BinopType, Sig, TypedUnder, TypedAllUnder, TakesUnder, with_def, given, RoomUnder}
use Rattle.language.specs.Types.{FineUnder, TypedFromUnder, HasTypeUnder}
use Rattle.language.specs.Types as Now

pub data OldBinop : Binary → Ty → Ty → Ty → Type 0 where
  b_add : OldBinop add int int int
  b_sub : OldBinop sub int int int
  b_mul : OldBinop mul int int int
  b_div : OldBinop div int int int
  b_less : OldBinop less int int bool
  b_equal : OldBinop equal int int bool
  b_and : OldBinop and bool bool bool
  b_or : OldBinop or bool bool bool
  b_assign : {t : Ty} → OldBinop assign (ref t) t unit

module _ (σ : Sizes) (Δ : Scope Sig) where
  mutual
    pub data OldTyped : Scope Ty → Exp → Ty → Type 0 where
      t_name : {Γ : Scope Ty} {i : ℕ} {x : Name} {t : Ty} → nearest x Γ ≡ some t → OldTyped Γ (name i x) t
      t_whole : {Γ : Scope Ty} {i n : ℕ} → OldTyped Γ (literal i (whole n)) int
      t_truth : {Γ : Scope Ty} {i : ℕ} {b : Bool} → OldTyped Γ (literal i (truth b)) bool
      t_trivial : {Γ : Scope Ty} {i : ℕ} → OldTyped Γ (literal i trivial) unit
      t_unary : {Γ : Scope Ty} {i : ℕ} {o : Unary} {e : Exp} {t u : Ty} → OldTyped Γ e t → UnopTypeUnder σ o t u → OldTyped Γ (unary i o e) u
      t_binary : {Γ : Scope Ty} {i : ℕ} {o : Binary} {e f : Exp} {t u v : Ty}
          → OldTyped Γ e t → OldTyped Γ f u → OldBinop o t u v → OldTyped Γ (binary i o e f) v
      t_follow : {Γ : Scope Ty} {i : ℕ} {e f : Exp} {t : Ty} → OldTyped Γ e unit → OldTyped Γ f t → OldTyped Γ (follow i e f) t
      t_group : {Γ : Scope Ty} {i : ℕ} {e : Exp} {t : Ty} → OldTyped Γ e t → OldTyped Γ (group i e) t
      t_block : {Γ : Scope Ty} {i : ℕ} {e : Exp} {t : Ty} → OldTyped Γ e t → OldTyped Γ (block i e) t
      t_call : {Γ : Scope Ty} {i : ℕ} {f : Name} {es : Exps} {ts : List Ty} {t : Ty}
          → OldTypedAll Γ es ts → nearest f Δ ≡ some record { takes = ts; gives = t } → OldTyped Γ (call i f es) t
      t_bind : {Γ : Scope Ty} {i : ℕ} {x : Name} {e f : Exp} {t u : Ty}
          → OldTyped Γ e t → OldTyped (push x t Γ) f u → OldTyped Γ (bind i x e f) u
      t_branch : {Γ : Scope Ty} {i : ℕ} {c e f : Exp} {t : Ty}
          → OldTyped Γ c bool → OldTyped Γ e t → OldTyped Γ f t → OldTyped Γ (branch i c e f) t
      t_loop : {Γ : Scope Ty} {i : ℕ} {c e : Exp} → OldTyped Γ c bool → OldTyped Γ e unit → OldTyped Γ (loop i c e) unit

    pub data OldTypedAll : Scope Ty → Exps → List Ty → Type 0 where
      t_last : {Γ : Scope Ty} → OldTypedAll Γ last []
      t_more : {Γ : Scope Ty} {e : Exp} {es : Exps} {t : Ty} {ts : List Ty}
          → OldTyped Γ e t → OldTypedAll Γ es ts → OldTypedAll Γ (more e es) (t ∷ ts)

pub data OldFine (σ : Sizes) (Δ : Scope Sig) (d : Def) : Type 0 where
  fine : {Γ : Scope Ty}
      → RoomUnder σ Δ → nearest d.called Δ ≡ none → TakesUnder σ empty d.params Γ → refs d.result ≤ σ.refs
      → OldTyped σ (with_def Δ d) Γ d.body d.result → OldFine σ Δ d

pub data OldTypedFrom (σ : Sizes) : Scope Sig → List Def → Exp → Ty → Type 0 where
  typed_main : {Δ : Scope Sig} {e : Exp} {t : Ty} → OldTyped σ Δ empty e t → OldTypedFrom σ Δ [] e t
  typed_def : {Δ : Scope Sig} {d : Def} {ds : List Def} {e : Exp} {t : Ty}
      → OldFine σ Δ d → OldTypedFrom σ (with_def Δ d) ds e t → OldTypedFrom σ Δ (d ∷ ds) e t

abbrev pub OldHasType : Sizes → Program → Ty → Type 0
OldHasType σ p t = OldTypedFrom σ given p.defs p.main t

-- ---- what had a type has it

still_binop : {o : Binary} {t u v : Ty} → OldBinop o t u v → BinopType o t u v
still_binop b_add = Now.b_add of_int
still_binop b_sub = Now.b_sub of_int
still_binop b_mul = Now.b_mul of_int
still_binop b_div = Now.b_div of_int
still_binop b_less = Now.b_less of_int
still_binop b_equal = Now.b_equal
still_binop b_and = Now.b_and
still_binop b_or = Now.b_or
still_binop b_assign = Now.b_assign

module _ {Δ : Scope Sig} where
  mutual
    still_typed : {σ : Sizes} {Γ : Scope Ty} {e : Exp} {t : Ty} → OldTyped σ Δ Γ e t → TypedUnder σ Δ Γ e t
    still_typed (t_name h) = Now.t_name h
    still_typed t_whole = Now.t_whole
    still_typed t_truth = Now.t_truth
    still_typed t_trivial = Now.t_trivial
    still_typed (t_unary a b) = Now.t_unary (still_typed a) b
    still_typed (t_binary a b c) = Now.t_binary (still_typed a) (still_typed b) (still_binop c)
    still_typed (t_follow a b) = Now.t_follow (still_typed a) (still_typed b)
    still_typed (t_group a) = Now.t_group (still_typed a)
    still_typed (t_block a) = Now.t_block (still_typed a)
    still_typed (t_call a h) = Now.t_call (still_all a) h
    still_typed (t_bind a b) = Now.t_bind (still_typed a) (still_typed b)
    still_typed (t_branch a b c) = Now.t_branch (still_typed a) (still_typed b) (still_typed c)
    still_typed (t_loop a b) = Now.t_loop (still_typed a) (still_typed b)

    still_all : {σ : Sizes} {Γ : Scope Ty} {es : Exps} {ts : List Ty} → OldTypedAll σ Δ Γ es ts → TypedAllUnder σ Δ Γ es ts
    still_all t_last = Now.t_last
    still_all (t_more a b) = Now.t_more (still_typed a) (still_all b)

still_fine : {σ : Sizes} {Δ : Scope Sig} {d : Def} → OldFine σ Δ d → FineUnder σ Δ d
still_fine (fine a b c h e) = Now.fine a b c h (still_typed e)

still_from : {σ : Sizes} {Δ : Scope Sig} {ds : List Def} {e : Exp} {t : Ty} → OldTypedFrom σ Δ ds e t → TypedFromUnder σ Δ ds e t
still_from (typed_main a) = Now.typed_main (still_typed a)
still_from (typed_def a b) = Now.typed_def (still_fine a) (still_from b)

pub still_has_type : {σ : Sizes} {p : Program} {t : Ty} → OldHasType σ p t → HasTypeUnder σ p t
still_has_type h = still_from h
