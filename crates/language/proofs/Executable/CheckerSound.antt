-- What the checker answers is so: a type that it gives is the reading's, and a fault that it tells is the reading's first.
use mathlib.Core.Path.{◌≡◌, refl, sym, subst}
use mathlib.Core.List.{List, [], ◌∷◌}
use mathlib.Core.Option.{Option, none, some}
use Prim.Native.Nat.{ℕ}
use native.Mathlib.Omega.{arith}
use Rattle.language.specs.Sizes.{Sizes}
use Rattle.language.specs.Trees.{Ty, Unary, Binary, Literal, whole, truth, trivial, decimal, Exp, name, literal, unary, binary, follow, group}
use Rattle.language.specs.Trees.{block, call, bind, branch, loop, Exps, last, more, Param, Def, Program, Scope, empty, push, nearest, counted, int}
use Rattle.language.specs.Types.{Sig, UnopTypeUnder, BinopType, TypedUnder, t_name, t_whole, t_truth, t_trivial, t_decimal, t_unary, t_binary}
use Rattle.language.specs.Types.{t_follow, t_group, t_block, t_call, t_bind, t_branch, t_loop, TypedAllUnder, t_last, t_more, TakesUnder, takes_none}
use Rattle.language.specs.Types.{takes_more, with_def, FineUnder, fine, TypedFromUnder, typed_main, typed_def, given, HasTypeUnder, HasType, t_counted}
use Rattle.language.specs.Faults.{Reason, FaultUnder, f_name, f_unary, f_unary_here, f_left, f_right, f_binary_here, f_first, f_second, f_follow_here}
use Rattle.language.specs.Faults.{f_group, f_block, f_arguments, f_no_function, f_wrong_number, f_wrong_argument, f_bound, f_inside, f_if}
use Rattle.language.specs.Faults.{f_then, f_else, f_if_here, f_branches_here, f_while, f_do, f_while_here, f_do_here, FaultAllUnder, f_one, f_rest}
use Rattle.language.specs.Faults.{FaultTakesUnder, p_ninth, p_twice, p_refs, p_later, FaultDefUnder, d_many, d_twice, d_params, d_refs, d_body, d_type}
use Rattle.language.specs.Faults.{FaultFromUnder, fault_main, fault_here, fault_later, HasFaultUnder, HasFault, f_bounds, f_pass, f_bounds_here}
use Rattle.language.specs.Faults.{f_pass_here}
use Rattle.language.proofs.Executable.Checks.{Res, Says, says, faults, says_after, says_told, says_need, says_map}
use Rattle.language.proofs.Executable.Operators.{unop_under, binop, Decides, decides_some, decides_none, unop_is, binop_is}
use Rattle.language.proofs.Executable.Checker.{literal_type, unbound, infer_under, infers_under, take_params_under, check_def_under}
use Rattle.language.proofs.Executable.Checker.{check_from_under, check_under, check}

literal_sound : {σ : Sizes} (Δ : Scope Sig) (Γ : Scope Ty) (i : ℕ) (l : Literal) → TypedUnder σ Δ Γ (literal i l) (literal_type l)
unfolding literal_type
literal_sound Δ Γ i (whole n) = t_whole
literal_sound Δ Γ i (truth b) = t_truth
literal_sound Δ Γ i trivial = t_trivial
literal_sound Δ Γ i (decimal x) = t_decimal

unop_some : {σ : Sizes} (o : Unary) (t u : Ty) → unop_under σ o t ≡ some u → UnopTypeUnder σ o t u
unop_some {σ} o t u e = decides_some (subst (Decides (UnopTypeUnder σ o t)) e (unop_is o t))

unop_none : {σ : Sizes} (o : Unary) (t : Ty) → unop_under σ o t ≡ none → (u : Ty) → UnopTypeUnder σ o t u → ⊥
unop_none {σ} o t e = decides_none (subst (Decides (UnopTypeUnder σ o t)) e (unop_is o t))

binop_some : (o : Binary) (t u v : Ty) → binop o t u ≡ some v → BinopType o t u v
binop_some o t u v e = decides_some (subst (Decides (BinopType o t u)) e (binop_is o t u))

binop_none : (o : Binary) (t u : Ty) → binop o t u ≡ none → (v : Ty) → BinopType o t u v → ⊥
binop_none o t u e = decides_none (subst (Decides (BinopType o t u)) e (binop_is o t u))

says_unbound : {A B : Type 0} {P : B → Type 0} {Q : Reason → ℕ → Type 0} (x : Option A) (r : Reason) (n : ℕ) (f : Unit {0} → Res B)
    → ((a : A) → x ≡ some a → Q r n) → (x ≡ none → Says P Q (f tt)) → Says P Q (unbound x r n f)
unfolding unbound
says_unbound none r n f h g = g refl
says_unbound (some a) r n f h g = faults (h a refl)

module _ (Δ : Scope Sig) where
  mutual
    unfolding infer_under

    pub infer_sound : {σ : Sizes} (e : Exp) (Γ : Scope Ty) → Says (TypedUnder σ Δ Γ e) (FaultUnder σ Δ Γ e) (infer_under σ Δ e Γ)
    infer_sound (name i x) Γ = says_told _ _ _ (λ t e. t_name e) λ e. f_name e
    infer_sound (literal i l) Γ = says (literal_sound Δ Γ i l)
    infer_sound (unary i o e) Γ =
        says_after _ (infer_sound e Γ) (λ r n p. f_unary p) λ t p.
        says_told _ _ _ (λ u h. t_unary p (unop_some o t u h)) λ h. f_unary_here p (unop_none o t h) refl
    infer_sound (binary i o e f) Γ =
        says_after _ (infer_sound e Γ) (λ r n p. f_left p) λ t p.
        says_after _ (infer_sound f Γ) (λ r n q. f_right p q) λ u q.
        says_told _ _ _ (λ v h. t_binary p q (binop_some o t u v h)) λ h. f_binary_here p q (binop_none o t u h)
    infer_sound {σ} (follow i e f) Γ =
        says_after _ (infer_sound e Γ) (λ r n p. f_first p) λ t p.
        says_after _ (infer_sound f Γ) (λ r n q. f_second p q) λ u q.
        says_need _ _ _ _ (λ h. f_follow_here p q h) λ h.
        says (t_follow (subst (TypedUnder σ Δ Γ e) h p) q)
    infer_sound (group i e) Γ = says_map (λ t p. t_group p) (λ r n p. f_group p) (infer_sound e Γ)
    infer_sound (block i e) Γ = says_map (λ t p. t_block p) (λ r n p. f_block p) (infer_sound e Γ)
    infer_sound {σ} (call i f es) Γ =
        says_after _ (infers_sound es Γ) (λ r n p. f_arguments p) λ ts p.
        says_after {P = λ s. nearest f Δ ≡ some s} {Q = λ r n. FaultUnder σ Δ Γ (call i f es) r n} _
        (says_told _ _ _ (λ s e. e) λ e. f_no_function p e) (λ r n q. q) λ s e.
        says_need _ _ _ _ (λ h. f_wrong_number p e h) λ h.
        says_need _ _ _ _ (λ k. f_wrong_argument p e h k) λ k.
        says (t_call (subst (TypedAllUnder σ Δ Γ es) k p) e)
    infer_sound (bind i x e f) Γ =
        says_after _ (infer_sound e Γ) (λ r n p. f_bound p) λ t p.
        says_map (λ u q. t_bind p q) (λ r n q. f_inside p q) (infer_sound f (push x t Γ))
    infer_sound {σ} (branch i c e f) Γ =
        says_after _ (infer_sound c Γ) (λ r n p. f_if p) λ b p.
        says_after _ (infer_sound e Γ) (λ r n q. f_then p q) λ t q.
        says_after _ (infer_sound f Γ) (λ r n s. f_else p q s) λ u s.
        says_need _ _ _ _ (λ h. f_if_here p q s h) λ h.
        says_need _ _ _ _ (λ k. f_branches_here (subst (TypedUnder σ Δ Γ c) h p) q s k) λ k.
        says (t_branch (subst (TypedUnder σ Δ Γ c) h p) q (subst (TypedUnder σ Δ Γ f) (sym k) s))
    infer_sound {σ} (loop i c e) Γ =
        says_after _ (infer_sound c Γ) (λ r n p. f_while p) λ b p.
        says_after _ (infer_sound e Γ) (λ r n q. f_do p q) λ t q.
        says_need _ _ _ _ (λ h. f_while_here p q h) λ h.
        says_need _ _ _ _ (λ k. f_do_here (subst (TypedUnder σ Δ Γ c) h p) q k) λ k.
        says (t_loop (subst (TypedUnder σ Δ Γ c) h p) (subst (TypedUnder σ Δ Γ e) k q))
    infer_sound {σ} (counted i x b es e) Γ =
        says_after _ (infers_sound es Γ) (λ r n p. f_bounds p) λ ts p.
        says_after _ (infer_sound e (push x int Γ)) (λ r n q. f_pass p q) λ t q.
        says_need _ _ _ _ (λ h. f_bounds_here p q h) λ h.
        says_need _ _ _ _ (λ k. f_pass_here p q h k) λ k.
        says (t_counted p h (subst (TypedUnder σ Δ (push x int Γ) e) k q))

    pub infers_sound : {σ : Sizes} (es : Exps) (Γ : Scope Ty) → Says (TypedAllUnder σ Δ Γ es) (FaultAllUnder σ Δ Γ es) (infers_under σ Δ es Γ)
    infers_sound last Γ = says t_last
    infers_sound (more e es) Γ =
        says_after _ (infer_sound e Γ) (λ r n p. f_one p) λ t p.
        says_after _ (infers_sound es Γ) (λ r n q. f_rest p q) λ ts q.
        says (t_more p q)

pub params_sound : {σ : Sizes} (ps : List Param) (Γ : Scope Ty) → Says (TakesUnder σ Γ ps) (FaultTakesUnder σ Γ ps) (take_params_under σ ps Γ)
unfolding take_params_under
params_sound [] Γ = says takes_none
params_sound (p ∷ ps) Γ =
    says_need _ _ _ _ (λ h. p_ninth (omega (arith, h))) λ a.
    says_unbound _ _ _ _ (λ t h. p_twice a h) λ b.
    says_need _ _ _ _ (λ h. p_refs a b (omega (arith, h))) λ c.
    says_map (λ Γ' q. takes_more a b c q) (λ r n q. p_later a b c q) (params_sound ps (push p.called p.type Γ))

pub def_sound : {σ : Sizes} (Δ : Scope Sig) (d : Def) → Says (λ _. FineUnder σ Δ d) (FaultDefUnder σ Δ d) (check_def_under σ Δ d)
unfolding check_def_under
def_sound {σ} Δ d =
    says_need _ _ _ _ (λ h. d_many (omega (arith, h))) λ a.
    says_unbound _ _ _ _ (λ s h. d_twice a h) λ b.
    says_after _ (params_sound d.params empty) (λ r n p. d_params a b p) λ Γ p.
    says_need _ _ _ _ (λ h. d_refs a b p (omega (arith, h))) λ c.
    says_after _ (infer_sound (with_def Δ d) d.body Γ) (λ r n q. d_body a b p c q) λ t q.
    says_need _ _ _ _ (λ h. d_type a b p c q h) λ h.
    says (fine a b p c (subst (TypedUnder σ (with_def Δ d) Γ d.body) h q))

pub from_sound : {σ : Sizes} (ds : List Def) (Δ : Scope Sig) (e : Exp) → Says (TypedFromUnder σ Δ ds e) (FaultFromUnder σ Δ ds e) (check_from_under σ ds Δ e)
unfolding check_from_under
from_sound [] Δ e = says_map (λ t p. typed_main p) (λ r n p. fault_main p) (infer_sound Δ e empty)
from_sound (d ∷ ds) Δ e =
    says_after _ (def_sound Δ d) (λ r n p. fault_here p) λ _ p.
    says_map (λ t q. typed_def p q) (λ r n q. fault_later p q) (from_sound ds (with_def Δ d) e)

pub check_says : {σ : Sizes} (p : Program) → Says (HasTypeUnder σ p) (HasFaultUnder σ p) (check_under σ p)
unfolding check_under
check_says p = from_sound p.defs given p.main

-- under the box's sizes
pub check_sound : (p : Program) → Says (HasType p) (HasFault p) (check p)
unfolding check
check_sound p = check_says p
