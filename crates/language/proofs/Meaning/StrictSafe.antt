-- A program that has a type is not stuck in the stricter meaning either.
use mathlib.Core.Path.{◌≡◌, refl, sym, subst, ◌∙◌}
use mathlib.Core.Bool.{Bool, true, false}
use mathlib.Core.List.{List, [], ◌∷◌}
use mathlib.Core.Option.{some}
use Prim.Native.Nat.{ℕ, zero, suc}
use Rattle.language.specs.Sizes.{Sizes, ACTIVE}
use Rattle.language.specs.Trees.{Ty, Binary, Exp}
use Rattle.language.specs.Trees.{Exps, Program, Scope, empty, nearest}
use Rattle.language.specs.Types.{Sig, of_int, of_float, BinopType, b_add, b_sub, b_mul, b_div, b_less, b_equal, b_and}
use Rattle.language.specs.Types.{b_or, b_assign, TypedUnder, t_name, t_whole, t_truth, t_trivial, t_decimal, t_unary, t_binary}
use Rattle.language.specs.Types.{t_follow, t_group, t_block, t_call, t_bind, t_branch, t_loop, given, HasTypeUnder}
use Rattle.language.specs.Types.{t_counted, TypedAllUnder, t_last, t_more, Bounds, two, three}
use Rattle.language.specs.State.{Value, State, Outcome}
use Rattle.language.specs.Meaning.{Env, Fun}
use Rattle.language.specs.Meaning.{start}
use Rattle.language.proofs.Grammar.OwnTokens.{owns, all_owns, program_owns, rest, front, back, main_owned}
use Rattle.language.proofs.Meaning.CellTypes.{none_some, some_one, Grows, stays, grows_trans, Fits, fits_int, fits_float}
use Rattle.language.proofs.Meaning.CellTypes.{fits_bool, fits_unit, fits_ref, FitsAll, fits_none, fits_more, EnvFits}
use Rattle.language.proofs.Meaning.CellTypes.{env_empty, env_grows, fits_grows, StateFits, holds_none}
use Rattle.language.proofs.Meaning.Safety.{Any, any_wide, any_fair, Good, good_value, good_stop, Fair}
use Rattle.language.proofs.Meaning.Safety.{FunFits, fun_putchar, fun_defined, Ready, Safe, good_then}
use Rattle.language.proofs.Meaning.Safety.{good_choose, good_when, good_bounds, good_begin, binary_good, settled, invoke_good, turns_good, step_good}
use Rattle.language.proofs.Meaning.StrictMeaning.{suits, of_kind, takes_of, as_many, bound_types, strict_each, strict_all, strict_step}
use Rattle.language.proofs.Meaning.StrictMeaning.{strict_eval}
use Rattle.language.proofs.Meaning.NeverStuck.{final, main_typed, program_ready}
use Rattle.language.proofs.Meaning.StrictMeaning.{strict_run}

-- a left side of the type that the operator wants is of the kind
suits_typed : {Σ : List Ty} {o : Binary} {t u r : Ty} {v : Value} → BinopType o t u r → Fits Any Σ v t → suits o v ≡ true
unfolding suits
suits_typed (b_add of_int) (fits_int r) = refl
suits_typed (b_add of_float) (fits_float r) = refl
suits_typed (b_sub of_int) (fits_int r) = refl
suits_typed (b_sub of_float) (fits_float r) = refl
suits_typed (b_mul of_int) (fits_int r) = refl
suits_typed (b_mul of_float) (fits_float r) = refl
suits_typed (b_div of_int) (fits_int r) = refl
suits_typed (b_div of_float) (fits_float r) = refl
suits_typed (b_less of_int) (fits_int r) = refl
suits_typed (b_less of_float) (fits_float r) = refl
suits_typed b_equal (fits_int r) = refl
suits_typed b_and fits_bool = refl
suits_typed b_or fits_bool = refl
suits_typed b_assign (fits_ref n) = refl

-- and a value of a type is of the type's kind
kind_typed : {Σ : List Ty} {t : Ty} {v : Value} → Fits Any Σ v t → of_kind t v ≡ true
unfolding of_kind
kind_typed (fits_int r) = refl
kind_typed (fits_float r) = refl
kind_typed fits_bool = refl
kind_typed fits_unit = refl
kind_typed (fits_ref n) = refl

many_typed : {σ : Sizes} {Δ : Scope Sig} {Γ : Scope Ty} {es : Exps} {ts : List Ty} → TypedAllUnder σ Δ Γ es ts → as_many es ts ≡ true
unfolding as_many
many_typed t_last = refl
many_typed (t_more a b) = many_typed b

bounds_typed : {σ : Sizes} {Δ : Scope Sig} {Γ : Scope Ty} {es : Exps} {ts : List Ty} → TypedAllUnder σ Δ Γ es ts → Bounds ts → ts ≡ bound_types es
unfolding bound_types
bounds_typed t_last x = elim x [ ]
bounds_typed (t_more a t_last) x = elim x [ ]
bounds_typed (t_more a (t_more b t_last)) two = refl
bounds_typed (t_more a (t_more b (t_more c t_last))) three = refl
bounds_typed (t_more a (t_more b (t_more c (t_more d _)))) x = elim x [ ]

takes_typed : {σ : Sizes} {Δ : Scope Sig} {g : Fun} {s : Sig} → FunFits σ Any Δ g s → s.takes ≡ takes_of g
unfolding takes_of
takes_typed fun_putchar = refl
takes_typed (fun_defined a b c m) = b

abbrev IsTrue : Bool → Type 0
IsTrue true = Unit {0}
IsTrue false = ⊥

not_both : {b : Bool} → b ≡ true → b ≡ false → ⊥
not_both x y = subst IsTrue y (subst IsTrue (sym x) tt)

module _ {σ : Sizes} (Δ : Scope Sig) (fs : Scope Fun) (ready : Ready σ Any Δ fs) where
  module _ (go : Exp → Env → State → Outcome) (all : Safe σ Any Δ go) where
    each_good : {Σ : List Ty} {Γ : Scope Ty} {es : Exps} {ts : List Ty} {u : Ty} (env : Env) (s : State)
        (k : List Value → State → Outcome) → TypedAllUnder σ Δ Γ es ts → Fair Any (all_owns es) → EnvFits Any Σ env Γ → StateFits Any Σ s
        → ((Σ' : List Ty) (vs : List Value) (s : State) → Grows Σ Σ' → StateFits Any Σ' s → FitsAll Any Σ' vs ts → Good Any Σ' u (k vs s))
        → Good Any Σ u (strict_each fs go es ts env s k)
    unfolding strict_each owns
    each_good env s k t_last m h p f = f _ [] s stays p fits_none
    each_good env s k (t_more {e = e} a b) m h p f =
        good_then any_wide _ (all.at env s a (front (owns e) _ m) h p) λ Σ₁ v s₁ g₁ p₁ q₁.
        good_choose any_wide _ _ _
        (λ _.
        each_good env s₁ _ b (back (owns e) _ m) (env_grows g₁ h) p₁ λ Σ₂ vs s₂ g₂ p₂ q₂.
        f Σ₂ (v ∷ vs) s₂ (grows_trans g₁ g₂) p₂ (fits_more (fits_grows g₂ q₁) q₂))
        λ n. absurd (not_both (kind_typed q₁) n)

    -- where the types are those that are asked
    all_good : {Σ : List Ty} {Γ : Scope Ty} {es : Exps} {ts us : List Ty} {u : Ty} (env : Env) (s : State)
        (k : List Value → State → Outcome) → ts ≡ us → TypedAllUnder σ Δ Γ es ts → Fair Any (all_owns es) → EnvFits Any Σ env Γ → StateFits Any Σ s
        → ((Σ' : List Ty) (vs : List Value) (s : State) → Grows Σ Σ' → StateFits Any Σ' s → FitsAll Any Σ' vs ts → Good Any Σ' u (k vs s))
        → Good Any Σ u (strict_all fs go es us env s k)
    unfolding strict_all
    all_good {Σ} {es = es} {u = u} env s k same a m h p f =
        subst (λ (us : List Ty). Good Any Σ u (strict_all fs go es us env s k)) same
        (good_choose any_wide _ _ _ (λ _. each_good env s k a m h p f) λ n. absurd (not_both (many_typed a) n))

    strict_good : {Σ : List Ty} {Γ : Scope Ty} {e : Exp} {t : Ty} (env : Env) (s : State)
        → TypedUnder σ Δ Γ e t → Fair Any (owns e) → EnvFits Any Σ env Γ → StateFits Any Σ s → Good Any Σ t (strict_step fs go e env s)
    unfolding strict_step owns
    strict_good env s (t_binary {i = i} {e = e} a b c) m h p =
        good_then any_wide _ (all.at env s a (front (owns e) _ m) h p) λ Σ₁ v s₁ g₁ p₁ q₁.
        good_choose any_wide _ _ _
        (λ _.
        good_choose any_wide _ _ _ (λ d. good_value stays p₁ (settled any_wide c d q₁)) λ _.
        good_then any_wide _ (all.at env s₁ b (rest (back (owns e) _ m)) (env_grows g₁ h) p₁) λ Σ₂ w s₂ g₂ p₂ q₂.
        binary_good any_wide i v w s₂ c p₂ (fits_grows g₂ q₁) q₂)
        λ n. absurd (not_both (suits_typed c q₁) n)
    strict_good env s (t_call {i = i} {f = f} {ts = ts} {t = t} a d) m h p =
        let r = ready f record { takes = ts; gives = t } d in
        let fits : (g : Fun) → nearest f fs ≡ some g → FunFits σ Any Δ g record { takes = ts; gives = t } =
        λ g e. subst (λ x. FunFits σ Any Δ x record { takes = ts; gives = t }) (some_one (sym r.1 ∙ e)) r.2 in
        good_when any_wide _ _ _
        (λ g e.
        all_good env s _ (takes_typed (fits g e)) a (rest m) h p λ Σ₁ vs s₁ g₁ p₁ q₁.
        invoke_good any_wide Δ fs ready go all i vs s₁ (fits g e) q₁ p₁)
        λ e. absurd (none_some (sym e ∙ r.1))
    strict_good env s (t_counted {es = es} a b d) m h p =
        all_good env s _ (bounds_typed a b) a (front (all_owns es) _ (rest m)) h p λ Σ₁ vs s₁ g₁ p₁ q₁.
        good_bounds any_wide b _ q₁ λ from to by r.
        good_choose any_wide _ _ _ (λ _. good_stop) λ _.
        turns_good any_wide Δ fs ready go all s₁.units _ to by from env s₁ d (back (all_owns es) _ (rest m)) (env_grows g₁ h) p₁ r
    strict_good env s (t_name d) m h p = step_good any_wide Δ fs ready go all env s (t_name d) m h p
    strict_good env s t_whole m h p = step_good any_wide Δ fs ready go all env s t_whole m h p
    strict_good env s t_truth m h p = step_good any_wide Δ fs ready go all env s t_truth m h p
    strict_good env s t_trivial m h p = step_good any_wide Δ fs ready go all env s t_trivial m h p
    strict_good env s t_decimal m h p = step_good any_wide Δ fs ready go all env s t_decimal m h p
    strict_good env s (t_unary a b) m h p = step_good any_wide Δ fs ready go all env s (t_unary a b) m h p
    strict_good env s (t_follow a b) m h p = step_good any_wide Δ fs ready go all env s (t_follow a b) m h p
    strict_good env s (t_group a) m h p = step_good any_wide Δ fs ready go all env s (t_group a) m h p
    strict_good env s (t_block a) m h p = step_good any_wide Δ fs ready go all env s (t_block a) m h p
    strict_good env s (t_bind a b) m h p = step_good any_wide Δ fs ready go all env s (t_bind a b) m h p
    strict_good env s (t_branch a b d) m h p = step_good any_wide Δ fs ready go all env s (t_branch a b d) m h p
    strict_good env s (t_loop a b) m h p = step_good any_wide Δ fs ready go all env s (t_loop a b) m h p

  strict_safe : (d : ℕ) → Safe σ Any Δ (strict_eval fs d)
  unfolding strict_eval
  strict_safe zero = record { at = λ env s a m h p. good_begin any_wide _ s _ p λ s₁ p₁. good_stop }
  strict_safe (suc d) =
      let ih = strict_safe d in
      record { at = λ env s a m h p. good_begin any_wide _ s _ p λ s₁ p₁. strict_good (strict_eval fs d) ih env s₁ a m h p₁ }

pub strict_run_good : {σ : Sizes} (p : Program) (t : Ty) (allowance room : ℕ) → HasTypeUnder σ p t → Good Any [] t (strict_run p allowance room)
unfolding strict_run program_owns
strict_run_good p t allowance room h =
    let m = any_fair (program_owns p) in
    (strict_safe (final given p.defs) _ (program_ready p t h m) ACTIVE).at empty (start allowance room) (main_typed h)
    (main_owned p.defs _ m) env_empty record { counted = refl; holds = holds_none }
