-- The checker finds every type and every fault.
use mathlib.Core.Path.{◌≡◌, refl, ap, ◌∙◌}
use mathlib.Core.List.{List}
use mathlib.Core.Option.{Option, none, some}
use Prim.Native.Nat.{ℕ}
use native.Mathlib.Omega.{arith}
use Rattle.language.specs.Sizes.{Sizes}
use Rattle.language.specs.Trees.{Ty, Exp, Exps, Param, Def, Program, Scope}
use Rattle.language.specs.Types.{Sig, TypedUnder, t_name, t_whole, t_truth, t_trivial, t_decimal, t_unary, t_binary, t_follow}
use Rattle.language.specs.Types.{t_group, t_block, t_call, t_bind, t_branch, t_loop, TypedAllUnder, t_last, t_more, TakesUnder, takes_none}
use Rattle.language.specs.Types.{takes_more, with_def, FineUnder, fine, TypedFromUnder, typed_main, typed_def, HasTypeUnder, t_counted}
use Rattle.language.specs.Faults.{Reason, FaultUnder, f_name, f_unary, f_unary_here, f_left, f_right, f_binary_here, f_first, f_second, f_follow_here}
use Rattle.language.specs.Faults.{f_group, f_block, f_arguments, f_no_function, f_wrong_number, f_wrong_argument, f_bound, f_inside, f_if}
use Rattle.language.specs.Faults.{f_then, f_else, f_if_here, f_branches_here, f_while, f_do, f_while_here, f_do_here, FaultAllUnder, f_one, f_rest}
use Rattle.language.specs.Faults.{FaultTakesUnder, p_ninth, p_twice, p_refs, p_later, FaultDefUnder, d_many, d_twice, d_params, d_refs, d_body, d_type}
use Rattle.language.specs.Faults.{FaultFromUnder, fault_main, fault_here, fault_later, HasFaultUnder, f_bounds, f_pass, f_bounds_here, f_pass_here}
use Rattle.language.proofs.Executable.Checks.{Res, ok, bad, after_ok, after_bad, told_some, told_none, need_yes, need_no}
use Rattle.language.proofs.Executable.Operators.{decided, undecided, unop_is, binop_is}
use Rattle.language.proofs.Executable.Checker.{literal_type, unbound, infer_under, infers_under, take_params_under, check_def_under}
use Rattle.language.proofs.Executable.Checker.{check_from_under, check_under}

unbound_none : {A B : Type 0} {x : Option A} {y : Res B} (r : Reason) (n : ℕ) (f : Unit {0} → Res B) → x ≡ none → f tt ≡ y → unbound x r n f ≡ y
unfolding unbound
unbound_none r n f e h = rw e h

unbound_some : {A B : Type 0} {x : Option A} {a : A} (r : Reason) (n : ℕ) (f : Unit {0} → Res B) → x ≡ some a → unbound x r n f ≡ bad r n
unfolding unbound
unbound_some r n f e = rw e refl

module _ (Δ : Scope Sig) where
  mutual
    unfolding infer_under literal_type

    pub infer_complete : {σ : Sizes} {Γ : Scope Ty} {e : Exp} {t : Ty} → TypedUnder σ Δ Γ e t → infer_under σ Δ e Γ ≡ ok t
    infer_complete (t_name h) = told_some _ _ h
    infer_complete t_whole = refl
    infer_complete t_truth = refl
    infer_complete t_trivial = refl
    infer_complete t_decimal = refl
    infer_complete (t_unary {o = o} {t = t} {u = u} p h) = after_ok _ (infer_complete p) (told_some _ _ (decided u (unop_is o t) h))
    infer_complete (t_binary {o = o} {t = t} {u = u} {v = v} p q h) =
        after_ok _ (infer_complete p) (after_ok _ (infer_complete q) (told_some _ _ (decided v (binop_is o t u) h)))
    infer_complete (t_follow p q) = after_ok _ (infer_complete p) (after_ok _ (infer_complete q) (need_yes _ _ _ _ refl refl))
    infer_complete (t_group p) = infer_complete p
    infer_complete (t_block p) = infer_complete p
    infer_complete (t_call p h) =
        after_ok _ (infers_complete p) (after_ok _ (told_some _ _ h) (need_yes _ _ _ _ refl (need_yes _ _ _ _ refl refl)))
    infer_complete (t_bind p q) = after_ok _ (infer_complete p) (infer_complete q)
    infer_complete (t_branch p q s) =
        after_ok _ (infer_complete p) (after_ok _ (infer_complete q) (after_ok _ (infer_complete s) (need_yes _ _ _ _ refl (need_yes _ _ _ _ refl refl))))
    infer_complete (t_loop p q) =
        after_ok _ (infer_complete p) (after_ok _ (infer_complete q) (need_yes _ _ _ _ refl (need_yes _ _ _ _ refl refl)))
    infer_complete (t_counted p b q) =
        after_ok _ (infers_complete p) (after_ok _ (infer_complete q) (need_yes _ _ _ _ b (need_yes _ _ _ _ refl refl)))

    pub infers_complete : {σ : Sizes} {Γ : Scope Ty} {es : Exps} {ts : List Ty} → TypedAllUnder σ Δ Γ es ts → infers_under σ Δ es Γ ≡ ok ts
    infers_complete t_last = refl
    infers_complete (t_more p q) = after_ok _ (infer_complete p) (after_ok _ (infers_complete q) refl)

  mutual
    unfolding infer_under

    pub fault_complete : {σ : Sizes} {Γ : Scope Ty} {e : Exp} {r : Reason} {n : ℕ} → FaultUnder σ Δ Γ e r n → infer_under σ Δ e Γ ≡ bad r n
    fault_complete (f_bounds p) = after_bad _ (faults_complete p)
    fault_complete (f_pass p q) = after_ok _ (infers_complete p) (after_bad _ (fault_complete q))
    fault_complete (f_bounds_here p q h) = after_ok _ (infers_complete p) (after_ok _ (infer_complete q) (need_no _ _ _ _ h))
    fault_complete (f_pass_here p q h k) =
        after_ok _ (infers_complete p) (after_ok _ (infer_complete q) (need_yes _ _ _ _ h (need_no _ _ _ _ k)))
    fault_complete (f_name h) = told_none _ _ h
    fault_complete (f_unary p) = after_bad _ (fault_complete p)
    fault_complete (f_unary_here {i = i} {o = o} {t = t} p h k) =
        after_ok _ (infer_complete p) (told_none _ _ (undecided (unop_is o t) h) ∙ ap (λ r. bad r i) k)
    fault_complete (f_left p) = after_bad _ (fault_complete p)
    fault_complete (f_right p q) = after_ok _ (infer_complete p) (after_bad _ (fault_complete q))
    fault_complete (f_binary_here {o = o} {t = t} {u = u} p q h) =
        after_ok _ (infer_complete p) (after_ok _ (infer_complete q) (told_none _ _ (undecided (binop_is o t u) h)))
    fault_complete (f_first p) = after_bad _ (fault_complete p)
    fault_complete (f_second p q) = after_ok _ (infer_complete p) (after_bad _ (fault_complete q))
    fault_complete (f_follow_here p q h) = after_ok _ (infer_complete p) (after_ok _ (infer_complete q) (need_no _ _ _ _ h))
    fault_complete (f_group p) = fault_complete p
    fault_complete (f_block p) = fault_complete p
    fault_complete (f_arguments p) = after_bad _ (faults_complete p)
    fault_complete (f_no_function p h) = after_ok _ (infers_complete p) (after_bad _ (told_none _ _ h))
    fault_complete (f_wrong_number p h k) = after_ok _ (infers_complete p) (after_ok _ (told_some _ _ h) (need_no _ _ _ _ k))
    fault_complete (f_wrong_argument p h k m) =
        after_ok _ (infers_complete p) (after_ok _ (told_some _ _ h) (need_yes _ _ _ _ k (need_no _ _ _ _ m)))
    fault_complete (f_bound p) = after_bad _ (fault_complete p)
    fault_complete (f_inside p q) = after_ok _ (infer_complete p) (fault_complete q)
    fault_complete (f_if p) = after_bad _ (fault_complete p)
    fault_complete (f_then p q) = after_ok _ (infer_complete p) (after_bad _ (fault_complete q))
    fault_complete (f_else p q s) = after_ok _ (infer_complete p) (after_ok _ (infer_complete q) (after_bad _ (fault_complete s)))
    fault_complete (f_if_here p q s h) =
        after_ok _ (infer_complete p) (after_ok _ (infer_complete q) (after_ok _ (infer_complete s) (need_no _ _ _ _ h)))
    fault_complete (f_branches_here p q s h) =
        after_ok _ (infer_complete p) (after_ok _ (infer_complete q) (after_ok _ (infer_complete s) (need_yes _ _ _ _ refl (need_no _ _ _ _ h))))
    fault_complete (f_while p) = after_bad _ (fault_complete p)
    fault_complete (f_do p q) = after_ok _ (infer_complete p) (after_bad _ (fault_complete q))
    fault_complete (f_while_here p q h) = after_ok _ (infer_complete p) (after_ok _ (infer_complete q) (need_no _ _ _ _ h))
    fault_complete (f_do_here p q h) = after_ok _ (infer_complete p) (after_ok _ (infer_complete q) (need_yes _ _ _ _ refl (need_no _ _ _ _ h)))

    pub faults_complete : {σ : Sizes} {Γ : Scope Ty} {es : Exps} {r : Reason} {n : ℕ} → FaultAllUnder σ Δ Γ es r n → infers_under σ Δ es Γ ≡ bad r n
    faults_complete (f_one p) = after_bad _ (fault_complete p)
    faults_complete (f_rest p q) = after_ok _ (infer_complete p) (after_bad _ (faults_complete q))

params_complete : {σ : Sizes} {Γ Γ' : Scope Ty} {ps : List Param} → TakesUnder σ Γ ps Γ' → take_params_under σ ps Γ ≡ ok Γ'
unfolding take_params_under
params_complete takes_none = refl
params_complete (takes_more a b c q) = need_yes _ _ _ _ a (unbound_none _ _ _ b (need_yes _ _ _ _ c (params_complete q)))

params_fault : {σ : Sizes} {Γ : Scope Ty} {ps : List Param} {r : Reason} {n : ℕ} → FaultTakesUnder σ Γ ps r n → take_params_under σ ps Γ ≡ bad r n
unfolding take_params_under
params_fault (p_ninth h) = need_no _ _ _ _ (λ k. omega arith)
params_fault (p_twice a h) = need_yes _ _ _ _ a (unbound_some _ _ _ h)
params_fault (p_refs a b h) = need_yes _ _ _ _ a (unbound_none _ _ _ b (need_no _ _ _ _ (λ k. omega arith)))
params_fault (p_later a b c q) = need_yes _ _ _ _ a (unbound_none _ _ _ b (need_yes _ _ _ _ c (params_fault q)))

def_complete : {σ : Sizes} {Δ : Scope Sig} {d : Def} → FineUnder σ Δ d → check_def_under σ Δ d ≡ ok tt
unfolding check_def_under
def_complete {Δ} {d} (fine a b p c q) =
    need_yes _ _ _ _ a (unbound_none _ _ _ b (after_ok _ (params_complete p) (need_yes _ _ _ _ c
    (after_ok _ (infer_complete (with_def Δ d) q) (need_yes _ _ _ _ refl refl)))))

def_fault : {σ : Sizes} {Δ : Scope Sig} {d : Def} {r : Reason} {n : ℕ} → FaultDefUnder σ Δ d r n → check_def_under σ Δ d ≡ bad r n
unfolding check_def_under
def_fault (d_many h) = need_no _ _ _ _ (λ k. omega arith)
def_fault (d_twice a h) = need_yes _ _ _ _ a (unbound_some _ _ _ h)
def_fault (d_params a b p) = need_yes _ _ _ _ a (unbound_none _ _ _ b (after_bad _ (params_fault p)))
def_fault (d_refs a b p h) = need_yes _ _ _ _ a (unbound_none _ _ _ b (after_ok _ (params_complete p) (need_no _ _ _ _ (λ k. omega arith))))
def_fault {Δ} {d} (d_body a b p c q) =
    need_yes _ _ _ _ a (unbound_none _ _ _ b (after_ok _ (params_complete p) (need_yes _ _ _ _ c (after_bad _ (fault_complete (with_def Δ d) q)))))
def_fault {Δ} {d} (d_type a b p c q h) =
    need_yes _ _ _ _ a (unbound_none _ _ _ b (after_ok _ (params_complete p) (need_yes _ _ _ _ c
    (after_ok _ (infer_complete (with_def Δ d) q) (need_no _ _ _ _ h)))))

from_complete : {σ : Sizes} {Δ : Scope Sig} {ds : List Def} {e : Exp} {t : Ty} → TypedFromUnder σ Δ ds e t → check_from_under σ ds Δ e ≡ ok t
unfolding check_from_under
from_complete (typed_main {Δ} p) = infer_complete Δ p
from_complete (typed_def p q) = after_ok _ (def_complete p) (from_complete q)

from_fault : {σ : Sizes} {Δ : Scope Sig} {ds : List Def} {e : Exp} {r : Reason} {n : ℕ} → FaultFromUnder σ Δ ds e r n → check_from_under σ ds Δ e ≡ bad r n
unfolding check_from_under
from_fault (fault_main {Δ} p) = fault_complete Δ p
from_fault (fault_here p) = after_bad _ (def_fault p)
from_fault (fault_later p q) = after_ok _ (def_complete p) (from_fault q)

pub check_complete : {σ : Sizes} (p : Program) (t : Ty) → HasTypeUnder σ p t → check_under σ p ≡ ok t
unfolding check_under
check_complete p t h = from_complete h

pub check_fault : {σ : Sizes} (p : Program) (r : Reason) (n : ℕ) → HasFaultUnder σ p r n → check_under σ p ≡ bad r n
unfolding check_under
check_fault p r n h = from_fault h
