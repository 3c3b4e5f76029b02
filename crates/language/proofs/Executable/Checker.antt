-- A type checker: structural, one clause for each node.
use mathlib.Core.Path.{◌≡◌, refl, sym}
use mathlib.Core.List.{List, [], ◌∷◌}
use mathlib.Core.Option.{Option, none, some}
use Prim.Native.Nat.{ℕ}
use native.Mathlib.Decide.{dec_lt, dec_le, ℕ_discrete}
use lib.ListN.{length}
use Rattle.language.specs.Sizes.{Sizes, BOX}
use Rattle.language.specs.Trees.{Ty, int, bool, unit, float, refs, TyDiscrete, Literal, whole, truth, trivial, decimal}
use Rattle.language.specs.Trees.{Exp, name, literal, unary, binary, follow, group, block, call, bind, branch, loop}
use Rattle.language.specs.Trees.{Exps, last, more, Param, Def, Program, Scope, empty, push, nearest, size, counted}
use Rattle.language.specs.Types.{Sig, with_def, given, Bounds, two, three}
use Rattle.language.specs.Faults.{Reason, no_binding, no_function, wrong_number, wrong_argument, wrong_operands, not_unit, not_bool, branches_differ}
use Rattle.language.specs.Faults.{wrong_body, too_many_refs, too_many_functions, too_many_parameters, function_twice, parameter_twice, unsuited, not_int}
use Rattle.language.proofs.Executable.Checks.{Res, ok, bad, after, told, need}
use Rattle.language.proofs.Executable.Operators.{unop_under, binop}

pub heads : {t u : Ty} {ts us : List Ty} → (t ∷ ts) ≡ (u ∷ us) → t ≡ u
heads e = cc

pub tails : {t u : Ty} {ts us : List Ty} → (t ∷ ts) ≡ (u ∷ us) → ts ≡ us
tails e = cc

abbrev pub Empty : List Ty → Type 0
Empty [] = Unit {0}
Empty (t ∷ ts) = ⊥

unfoldable pub join : {t u : Ty} {ts us : List Ty} → Dec (t ≡ u) → Dec (ts ≡ us) → Dec ((t ∷ ts) ≡ (u ∷ us))
join (yes p) (yes q) = yes (cc)
join (yes p) (no q) = no λ e. q (tails e)
join (no p) d = no λ e. p (heads e)

unfoldable pub same_types : (ts us : List Ty) → Dec (ts ≡ us)
same_types [] [] = yes refl
same_types [] (u ∷ us) = no λ e. mathlib.Core.Path.subst Empty e tt
same_types (t ∷ ts) [] = no λ e. mathlib.Core.Path.subst Empty (sym e) tt
same_types (t ∷ ts) (u ∷ us) = join (TyDiscrete t u) (same_types ts us)

unfoldable pub literal_type : Literal → Ty
literal_type (whole n) = int
literal_type (truth b) = bool
literal_type trivial = unit
literal_type (decimal x) = float

-- two ints, or three
abbrev pub IsBounds : List Ty → Type 0
IsBounds [] = ⊥
IsBounds (t ∷ []) = ⊥
IsBounds (t ∷ u ∷ []) = (t ≡ int) × (u ≡ int)
IsBounds (t ∷ u ∷ v ∷ []) = (t ≡ int) × (u ≡ int) × (v ≡ int)
IsBounds (t ∷ u ∷ v ∷ w ∷ ts) = ⊥

pub is_bounds : {ts : List Ty} → Bounds ts → IsBounds ts
is_bounds two = (refl, refl)
is_bounds three = (refl, refl, refl)

unfoldable pub bounds_two : {t u : Ty} → Dec (t ≡ int) → Dec (u ≡ int) → Dec (Bounds (t ∷ u ∷ []))
bounds_two (yes p) (yes q) = yes (rw (p, q) two)
bounds_two (yes p) (no q) = no λ b. q (is_bounds b).1
bounds_two (no p) d = no λ b. p (is_bounds b).0

unfoldable pub bounds_three : {t u v : Ty} → Dec (t ≡ int) → Dec (u ≡ int) → Dec (v ≡ int) → Dec (Bounds (t ∷ u ∷ v ∷ []))
bounds_three (yes p) (yes q) (yes r) = yes (rw (p, q, r) three)
bounds_three (yes p) (yes q) (no r) = no λ b. r (is_bounds b).2
bounds_three (yes p) (no q) d = no λ b. q (is_bounds b).1
bounds_three (no p) c d = no λ b. p (is_bounds b).0

unfoldable pub bounds : (ts : List Ty) → Dec (Bounds ts)
bounds [] = no λ b. is_bounds b
bounds (t ∷ []) = no λ b. is_bounds b
bounds (t ∷ u ∷ []) = bounds_two (TyDiscrete t int) (TyDiscrete u int)
bounds (t ∷ u ∷ v ∷ []) = bounds_three (TyDiscrete t int) (TyDiscrete u int) (TyDiscrete v int)
bounds (t ∷ u ∷ v ∷ w ∷ ts) = no λ b. is_bounds b

-- what a name that must be new is bound to
unfoldable pub unbound : {A B : Type 0} → Option A → Reason → ℕ → (Unit {0} → Res B) → Res B
unbound none r n f = f tt
unbound (some a) r n f = bad r n

module _ (σ : Sizes) (Δ : Scope Sig) where
  unfoldable mutual
    pub infer_under : Exp → Scope Ty → Res Ty
    infer_under (name i x) Γ = told (nearest x Γ) no_binding i
    infer_under (literal i l) Γ = ok (literal_type l)
    infer_under (unary i o e) Γ = after (infer_under e Γ) λ t. told (unop_under σ o t) (unsuited o) i
    infer_under (binary i o e f) Γ = after (infer_under e Γ) λ t. after (infer_under f Γ) λ u. told (binop o t u) wrong_operands i
    infer_under (follow i e f) Γ = after (infer_under e Γ) λ t. after (infer_under f Γ) λ u. need (TyDiscrete t unit) not_unit i λ _. ok u
    infer_under (group i e) Γ = infer_under e Γ
    infer_under (block i e) Γ = infer_under e Γ
    infer_under (call i f es) Γ =
        after (infers_under es Γ) λ ts.
        after (told (nearest f Δ) no_function i) λ s.
        need (ℕ_discrete (length ts) (length s.takes)) wrong_number i λ _.
        need (same_types ts s.takes) wrong_argument i λ _.
        ok s.gives
    infer_under (bind i x e f) Γ = after (infer_under e Γ) λ t. infer_under f (push x t Γ)
    infer_under (branch i c e f) Γ =
        after (infer_under c Γ) λ b.
        after (infer_under e Γ) λ t.
        after (infer_under f Γ) λ u.
        need (TyDiscrete b bool) not_bool i λ _.
        need (TyDiscrete t u) branches_differ i λ _.
        ok t
    infer_under (loop i c e) Γ =
        after (infer_under c Γ) λ b.
        after (infer_under e Γ) λ t.
        need (TyDiscrete b bool) not_bool i λ _.
        need (TyDiscrete t unit) not_unit i λ _.
        ok unit
    infer_under (counted i x b es e) Γ =
        after (infers_under es Γ) λ ts.
        after (infer_under e (push x int Γ)) λ t.
        need (bounds ts) not_int i λ _.
        need (TyDiscrete t unit) not_unit i λ _.
        ok unit

    pub infers_under : Exps → Scope Ty → Res (List Ty)
    infers_under last Γ = ok []
    infers_under (more e es) Γ = after (infer_under e Γ) λ t. after (infers_under es Γ) λ ts. ok (t ∷ ts)

unfoldable pub take_params_under : Sizes → List Param → Scope Ty → Res (Scope Ty)
take_params_under σ [] Γ = ok Γ
take_params_under σ (p ∷ ps) Γ =
    need (dec_lt (size Γ) σ.parameters) too_many_parameters p.at λ _.
    unbound (nearest p.called Γ) parameter_twice p.at λ _.
    need (dec_le (refs p.type) σ.refs) too_many_refs p.at λ _.
    take_params_under σ ps (push p.called p.type Γ)

unfoldable pub check_def_under : Sizes → Scope Sig → Def → Res (Unit {0})
check_def_under σ Δ d =
    need (dec_le (size Δ) σ.functions) too_many_functions d.at λ _.
    unbound (nearest d.called Δ) function_twice d.named λ _.
    after (take_params_under σ d.params empty) λ Γ.
    need (dec_le (refs d.result) σ.refs) too_many_refs d.at λ _.
    after (infer_under σ (with_def Δ d) d.body Γ) λ t.
    need (TyDiscrete t d.result) wrong_body d.at λ _.
    ok tt

unfoldable pub check_from_under : Sizes → List Def → Scope Sig → Exp → Res Ty
check_from_under σ [] Δ e = infer_under σ Δ e empty
check_from_under σ (d ∷ ds) Δ e = after (check_def_under σ Δ d) λ _. check_from_under σ ds (with_def Δ d) e

unfoldable pub check_under : Sizes → Program → Res Ty
check_under σ p = check_from_under σ p.defs given p.main

-- ---- under the box's sizes: to unfold one of these is to unfold all that it computes with, under any sizes

unfoldable abbrev pub infer : Scope Sig → Exp → Scope Ty → Res Ty
unfolding infer_under unop_under
infer Δ e Γ = infer_under BOX Δ e Γ

unfoldable abbrev pub infers : Scope Sig → Exps → Scope Ty → Res (List Ty)
unfolding infer_under unop_under
infers Δ es Γ = infers_under BOX Δ es Γ

unfoldable abbrev pub take_params : List Param → Scope Ty → Res (Scope Ty)
unfolding take_params_under
take_params ps Γ = take_params_under BOX ps Γ

unfoldable abbrev pub check_def : Scope Sig → Def → Res (Unit {0})
unfolding check_def_under take_params_under infer_under unop_under
check_def Δ d = check_def_under BOX Δ d

unfoldable abbrev pub check_from : List Def → Scope Sig → Exp → Res Ty
unfolding check_from_under check_def_under take_params_under infer_under unop_under
check_from ds Δ e = check_from_under BOX ds Δ e

unfoldable abbrev pub check : Program → Res Ty
unfolding check_under check_from_under check_def_under take_params_under infer_under unop_under
check p = check_under BOX p
