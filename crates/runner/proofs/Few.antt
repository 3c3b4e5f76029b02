-- In a program that has a type no call has more arguments than a function may have parameters, and no `for` more bounds.
use mathlib.Core.Path.{◌≡◌, refl, ap, subst}
use mathlib.Core.Bool.{Bool, true, false}
use mathlib.Core.List.{List, [], ◌∷◌, map}
use mathlib.Core.Option.{Option, some}
use Prim.Native.Nat.{suc, ◌+◌, ◌≤◌}
use native.Mathlib.Omega.{arith}
use lib.ListN.{length}
use Rattle.language.specs.Sizes.{PARAMETERS}
use Rattle.language.specs.Tokens.{same}
use Rattle.language.specs.Trees.{Name, Ty, Exp, name, literal, unary, binary, follow, group, block, call, bind, branch}
use Rattle.language.specs.Trees.{loop, counted, Exps, last, more, Param, Def, Scope, empty, push, nearest, size, PUTCHAR}
use Rattle.language.specs.Types.{Sig, Typed, t_name, t_whole, t_truth, t_trivial, t_decimal, t_unary, t_binary, t_follow, t_group, t_block, t_call}
use Rattle.language.specs.Types.{t_bind, t_branch, t_loop, t_counted, Bounds, two, three, TypedAll, t_last}
use Rattle.language.specs.Types.{t_more, Takes, takes_none, takes_more, sig, with_def, given, Fine, fine}
use Rattle.language.proofs.Meaning.CellTypes.{none_some, some_one}
use Rattle.runner.specs.Trees.{count}

unfoldable mutual
  pub Few : Exp → Type 0
  Few (name i x) = Unit {0}
  Few (literal i l) = Unit {0}
  Few (unary i o e) = Few e
  Few (binary i o e f) = Few e × Few f
  Few (follow i e f) = Few e × Few f
  Few (group i e) = Few e
  Few (block i e) = Few e
  Few (call i f es) = (count es ≤ PARAMETERS) × FewAll es
  Few (bind i x e f) = Few e × Few f
  Few (branch i c e f) = Few c × Few e × Few f
  Few (loop i c e) = Few c × Few e
  Few (counted i x b es e) = (count es ≤ PARAMETERS) × FewAll es × Few e

  pub FewAll : Exps → Type 0
  FewAll last = Unit {0}
  FewAll (more e es) = Few e × FewAll es

-- every function in sight takes few
abbrev pub Small : Scope Sig → Type 0
Small Δ = (x : Name) (s : Sig) → nearest x Δ ≡ some s → length s.takes ≤ PARAMETERS

count_is : {Δ : Scope Sig} {Γ : Scope Ty} {es : Exps} {ts : List Ty} → TypedAll Δ Γ es ts → count es ≡ length ts
unfolding count
count_is t_last = refl
count_is (t_more e es) = ap suc (count_is es)

bounds_few : {ts : List Ty} → Bounds ts → length ts ≤ PARAMETERS
bounds_few two = omega arith
bounds_few three = omega arith

module _ {Δ : Scope Sig} (small : Small Δ) where
  mutual
    unfolding Few

    pub typed_few : {Γ : Scope Ty} {e : Exp} {t : Ty} → Typed Δ Γ e t → Few e
    typed_few (t_name h) = tt
    typed_few t_whole = tt
    typed_few t_truth = tt
    typed_few t_trivial = tt
    typed_few t_decimal = tt
    typed_few (t_unary a h) = typed_few a
    typed_few (t_binary a b h) = (typed_few a, typed_few b)
    typed_few (t_follow a b) = (typed_few a, typed_few b)
    typed_few (t_group a) = typed_few a
    typed_few (t_block a) = typed_few a
    typed_few (t_call {f = f} xs h) = (omega (arith, count_is xs, small f _ h), typed_few_all xs)
    typed_few (t_bind a b) = (typed_few a, typed_few b)
    typed_few (t_branch a b c) = (typed_few a, typed_few b, typed_few c)
    typed_few (t_loop a b) = (typed_few a, typed_few b)
    typed_few (t_counted xs bs a) = (omega (arith, count_is xs, bounds_few bs), typed_few_all xs, typed_few a)

    typed_few_all : {Γ : Scope Ty} {es : Exps} {ts : List Ty} → TypedAll Δ Γ es ts → FewAll es
    typed_few_all t_last = tt
    typed_few_all (t_more a xs) = (typed_few a, typed_few_all xs)

-- ---- the functions in sight

push_small : (Δ : Scope Sig) (y : Name) (z : Sig) → length z.takes ≤ PARAMETERS → Small Δ → Small (push y z Δ)
unfolding nearest
push_small Δ y z l h x s e = by (same x y) refl
  where
    by : (b : Bool) → same x y ≡ b → length s.takes ≤ PARAMETERS
    by true d =
        let q : ◌≡◌ {A = Option Sig} (some z) (some s) = rw d at e in
        subst (λ (v : Sig). length v.takes ≤ PARAMETERS) (some_one q) l
    by false d = let q : nearest x Δ ≡ some s = rw d at e in h x s q

pub given_small : Small given
unfolding nearest
given_small = push_small empty PUTCHAR _ (omega arith) (λ x s e. absurd (none_some e))

takes_few : {Γ Γ' : Scope Ty} {ps : List Param} → Takes Γ ps Γ' → size Γ ≤ PARAMETERS → size Γ + length ps ≤ PARAMETERS
unfolding size
takes_few takes_none l = omega arith
takes_few (takes_more a b c rest) l = let r = takes_few rest (omega arith) in omega arith

pub params_few : {Δ : Scope Sig} {d : Def} → Fine Δ d → length d.params ≤ PARAMETERS
unfolding size
params_few (fine a b takes c d) = let r = takes_few takes (omega arith) in omega arith

map_length : (ps : List Param) → length (map (λ (p : Param). p.type) ps) ≡ length ps
map_length [] = refl
map_length (p ∷ ps) = ap suc (map_length ps)

pub def_small : (Δ : Scope Sig) (d : Def) → length d.params ≤ PARAMETERS → Small Δ → Small (with_def Δ d)
def_small Δ d l h = push_small Δ d.called (sig d) (omega (arith, map_length d.params)) h

-- a function's body
pub body_few : {Δ : Scope Sig} {d : Def} → Small Δ → Fine Δ d → Few d.body
body_few {Δ} {d} h ok = by (params_few ok) ok
  where
    by : length d.params ≤ PARAMETERS → Fine Δ d → Few d.body
    by l (fine a b takes c typed) = typed_few (def_small Δ d l h) typed
