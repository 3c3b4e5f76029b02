-- A program that has a type is never stuck.
use mathlib.Core.Path.{◌≡◌, refl, sym, ap, subst, ◌∙◌}
use mathlib.Core.Bool.{Bool, true, false, cond, ◌&&◌}
use mathlib.Core.List.{List, [], ◌∷◌}
use mathlib.Core.Option.{none, some}
use Prim.Native.Nat.{ℕ}
use lib.Dec.{eqb}
use borrow.Author.Tests.{eqb-true}
use Rattle.language.specs.Sizes.{Sizes, ACTIVE}
use Rattle.language.specs.Tokens.{same}
use Rattle.language.specs.Trees.{Name, Ty, Exp, Exps, Def, Program, Scope, empty, push, nearest, PUTCHAR}
use Rattle.language.specs.Types.{Sig, TypedUnder, t_name, t_whole, t_truth, t_trivial, t_decimal, t_unary, t_binary}
use Rattle.language.specs.Types.{t_follow, t_group, t_block, t_call, t_bind, t_branch, t_loop, TypedAllUnder, t_last}
use Rattle.language.specs.Types.{t_more, fine, with_def, TypedFromUnder, typed_main, typed_def, given, HasTypeUnder, t_counted}
use Rattle.language.specs.State.{Outcome, value, stop, stuck}
use Rattle.language.specs.Meaning.{Fun, putchar, functions, start, run}
use Rattle.language.proofs.Grammar.OwnTokens.{Own, owns, def_owns, program_owns, front, back, main_owned}
use Rattle.language.proofs.Meaning.CellTypes.{Asked, none_some, some_one, holds_none, env_empty}
use Rattle.language.proofs.Meaning.Safety.{Wide, any_wide, any_fair, Good, good_value, good_stop, Fair}
use Rattle.language.proofs.Meaning.Safety.{FunFits, fun_putchar, fun_defined, Ready, eval_good}

pub and_left : (a b : Bool) → a && b ≡ true → a ≡ true
and_left true b e = refl
and_left false b e = e

pub and_right : (a b : Bool) → a && b ≡ true → b ≡ true
and_right true b e = e
and_right false true e = refl
and_right false false e = e

abbrev IsFalse : Bool → Type 0
IsFalse false = Unit {0}
IsFalse true = ⊥

pub same_true : (x y : Name) → same x y ≡ true → x ≡ y
unfolding same
same_true [] [] e = refl
same_true [] (y ∷ ys) e = absurd (subst IsFalse e tt)
same_true (x ∷ xs) [] e = absurd (subst IsFalse e tt)
same_true (x ∷ xs) (y ∷ ys) e =
    let p = eqb-true x y (and_left (eqb x y) (same xs ys) e) in
    let q = same_true xs ys (and_right (eqb x y) (same xs ys) e) in
    cc

-- what Δ knows, Δ' knows too
abbrev Knows : Scope Sig → Scope Sig → Type 0
Knows Δ Δ' = (f : Name) (s : Sig) → nearest f Δ ≡ some s → nearest f Δ' ≡ some s

module _ (Δ Δ' : Scope Sig) (k : Knows Δ Δ') where
  mutual
    weaken : {σ : Sizes} {Γ : Scope Ty} {e : Exp} {t : Ty} → TypedUnder σ Δ Γ e t → TypedUnder σ Δ' Γ e t
    weaken (t_name h) = t_name h
    weaken t_whole = t_whole
    weaken t_truth = t_truth
    weaken t_trivial = t_trivial
    weaken t_decimal = t_decimal
    weaken (t_unary p h) = t_unary (weaken p) h
    weaken (t_binary p q h) = t_binary (weaken p) (weaken q) h
    weaken (t_follow p q) = t_follow (weaken p) (weaken q)
    weaken (t_group p) = t_group (weaken p)
    weaken (t_block p) = t_block (weaken p)
    weaken (t_call {f = f} p h) = t_call (weakens p) (k f _ h)
    weaken (t_bind p q) = t_bind (weaken p) (weaken q)
    weaken (t_branch p q r) = t_branch (weaken p) (weaken q) (weaken r)
    weaken (t_loop p q) = t_loop (weaken p) (weaken q)
    weaken (t_counted p q r) = t_counted (weakens p) q (weaken r)

    weakens : {σ : Sizes} {Γ : Scope Ty} {es : Exps} {ts : List Ty} → TypedAllUnder σ Δ Γ es ts → TypedAllUnder σ Δ' Γ es ts
    weakens t_last = t_last
    weakens (t_more p q) = t_more (weaken p) (weakens q)

-- a new name hides none
knows_push : (Δ : Scope Sig) (g : Name) (r : Sig) → nearest g Δ ≡ none → Knows Δ (push g r Δ)
unfolding nearest
knows_push Δ g r e f s h = go (same f g) refl
  where
    go : (b : Bool) → same f g ≡ b → cond b (some r) (nearest f Δ) ≡ some s
    go true d = absurd (none_some (sym e ∙ ap (λ x. nearest x Δ) (sym (same_true f g d)) ∙ h))
    go false d = h

unfoldable pub final : Scope Sig → List Def → Scope Sig
final Δ [] = Δ
final Δ (d ∷ ds) = final (with_def Δ d) ds

knows_final : {σ : Sizes} {Δ : Scope Sig} {ds : List Def} {e : Exp} {t : Ty} → TypedFromUnder σ Δ ds e t → Knows Δ (final Δ ds)
unfolding final
knows_final (typed_main p) f s h = h
knows_final (typed_def {Δ} {d} (fine a b c m n) q) f s h = knows_final q f s (knows_push Δ d.called _ b f s h)

-- functions and what they take and give, in one order
data Tabled (σ : Sizes) (R : Asked) (Δ : Scope Sig) : Scope Fun → Scope Sig → Type 0 where
  tabled_none : Tabled σ R Δ empty empty
  tabled_push : {f : Name} {g : Fun} {s : Sig} {fs : Scope Fun} {ss : Scope Sig} → FunFits σ R Δ g s → Tabled σ R Δ fs ss
      → Tabled σ R Δ (push f g fs) (push f s ss)

module _ {R : Asked} where
  find : {σ : Sizes} {Δ ss : Scope Sig} {fs : Scope Fun} (f : Name) (s : Sig) → Tabled σ R Δ fs ss → nearest f ss ≡ some s
      → (g : Fun) × (nearest f fs ≡ some g) × FunFits σ R Δ g s
  unfolding nearest
  find f s tabled_none e = absurd (none_some e)
  find {σ} {Δ} f s (tabled_push {f = h} {g = g} {s = r} {fs = fs} {ss = ss} p q) e = go (same f h) e (λ m. find f s q m)
    where
      go : (b : Bool) → cond b (some r) (nearest f ss) ≡ some s
          → (nearest f ss ≡ some s → (g : Fun) × (nearest f fs ≡ some g) × FunFits σ R Δ g s)
          → (x : Fun) × (cond b (some g) (nearest f fs) ≡ some x) × FunFits σ R Δ x s
      go true e k = (g, refl, subst (FunFits σ R Δ g) (some_one e) p)
      go false e k = k e

  tables : {σ : Sizes} {Δ Δ' : Scope Sig} {ds : List Def} {e : Exp} {t : Ty} {fs : Scope Fun} (os : List Own) → TypedFromUnder σ Δ ds e t
      → Fair R (def_owns ds os) → Knows (final Δ ds) Δ' → Tabled σ R Δ' fs Δ → Tabled σ R Δ' (functions ds fs) (final Δ ds)
  unfolding final functions def_owns
  tables os (typed_main p) m k h = h
  tables os (typed_def {Δ} {d} (fine a b c r n) q) m k h =
      let body = weaken (with_def Δ d) _ (λ f s e. k f s (knows_final q f s e)) n in
      tables os q (back (owns d.body) _ m) k (tabled_push (fun_defined c refl body (front (owns d.body) _ m)) h)

pub main_typed : {σ : Sizes} {Δ : Scope Sig} {ds : List Def} {e : Exp} {t : Ty} → TypedFromUnder σ Δ ds e t → TypedUnder σ (final Δ ds) empty e t
unfolding final
main_typed (typed_main p) = p
main_typed (typed_def p q) = main_typed q

-- the functions of a program are what its types say
pub program_ready : {σ : Sizes} {R : Asked} (p : Program) (t : Ty) → HasTypeUnder σ p t → Fair R (program_owns p)
    → Ready σ R (final given p.defs) (functions p.defs (push PUTCHAR putchar empty))
unfolding program_owns
program_ready p t h m f s e = find f s (tables (owns p.main) h m (λ g r k. k) (tabled_push fun_putchar tabled_none)) e

-- a run is not stuck; with numbers that are what is asked, so is every int and every float that it makes
pub run_good : {σ : Sizes} {R : Asked} → Wide R → (p : Program) (t : Ty) (allowance room : ℕ) → HasTypeUnder σ p t
    → Fair R (program_owns p) → Good R [] t (run p allowance room)
unfolding run program_owns
run_good wide p t allowance room h m =
    eval_good wide (final given p.defs) _ (program_ready p t h m) ACTIVE empty (start allowance room) (main_typed h)
    (main_owned p.defs _ m) env_empty record { counted = refl; holds = holds_none }

abbrev IsMoving : Outcome → Type 0
IsMoving (value v s) = Unit {0}
IsMoving (stop n i s) = Unit {0}
IsMoving stuck = ⊥

pub not_stuck : {R : Asked} {Σ : List Ty} {t : Ty} {o : Outcome} → Good R Σ t o → o ≡ stuck → ⊥
not_stuck (good_value g p q) e = subst IsMoving e tt
not_stuck good_stop e = subst IsMoving e tt

-- never stuck
pub never_stuck : {σ : Sizes} (p : Program) (t : Ty) (allowance room : ℕ) → HasTypeUnder σ p t → run p allowance room ≡ stuck → ⊥
never_stuck p t a r h e = not_stuck (run_good any_wide p t a r h (any_fair (program_owns p))) e
