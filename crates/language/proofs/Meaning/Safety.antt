-- A node that has a type is never stuck, and its value is of the type.
use mathlib.Core.Path.{◌≡◌, sym, subst, ◌∙◌}
use mathlib.Core.Bool.{Bool}
use mathlib.Core.List.{List, [], ◌∷◌}
use mathlib.Core.Option.{some}
use Prim.Native.Nat.{ℕ, zero, suc}
use lib.IntN.{ℤ}
use Rattle.language.specs.Sizes.{Sizes}
use Rattle.language.specs.Trees.{Name, Ty, int, bool, unit, Exp, Exps, Scope, empty, push, nearest}
use Rattle.language.specs.Types.{Sig}
use Rattle.language.specs.Types.{TypedUnder, t_name, t_whole, t_truth}
use Rattle.language.specs.Types.{t_trivial, t_decimal, t_unary, t_binary, t_follow, t_group, t_block, t_call, t_bind, t_branch}
use Rattle.language.specs.Types.{t_loop, TypedAllUnder, t_last, t_more, t_counted}
use Rattle.language.specs.State.{Value, State, Outcome}
use Rattle.language.specs.Meaning.{Env, literal_value}
use Rattle.language.specs.Meaning.{Fun, arguments, invoke, passes, step, eval, turns}
use Rattle.language.proofs.Grammar.OwnTokens.{owns, all_owns, first, rest, front, back}
use Rattle.language.proofs.Meaning.CellTypes.{Asked, none_some, some_one, Grows, stays, grows_trans, Fits, fits_int, fits_float}
use Rattle.language.proofs.Meaning.CellTypes.{fits_bool, fits_unit, FitsAll, fits_none, fits_more, EnvFits, env_empty}
use Rattle.language.proofs.Meaning.CellTypes.{env_push, StateFits, keep_holds, env_find, fits_grows, env_grows}
pub use Rattle.language.proofs.Meaning.GoodOutcomes.{Wide, Any, any_wide, any_fair, Good, good_value, good_stop}
pub use Rattle.language.proofs.Meaning.GoodOutcomes.{Fair, FunFits, fun_putchar, fun_defined, Ready, Safe}
pub use Rattle.language.proofs.Meaning.GoodOutcomes.{good_then, good_choose, good_when, good_bounds, good_begin, binary_good, settled}
use Rattle.language.proofs.Meaning.GoodOutcomes.{good_int, good_bool, good_unit, unary_good, good_put, good_one}
use Rattle.language.proofs.Meaning.GoodOutcomes.{good_enter}

-- every int within the range, and every float of 64 bits, is what is asked
module _ {R : Asked} (wide : Wide R) where
  module _ {σ : Sizes} (Δ : Scope Sig) (fs : Scope Fun) (ready : Ready σ R Δ fs) (go : Exp → Env → State → Outcome) (all : Safe σ R Δ go) where
    safe : {Σ : List Ty} {Γ : Scope Ty} {e : Exp} {t : Ty} (env : Env) (s : State)
        → TypedUnder σ Δ Γ e t → Fair R (owns e) → EnvFits R Σ env Γ → StateFits R Σ s → Good R Σ t (go e env s)
    safe env s a m h p = all.at env s a m h p

    arguments_good : {Σ : List Ty} {Γ : Scope Ty} {es : Exps} {ts : List Ty} {u : Ty} (env : Env) (s : State)
        (k : List Value → State → Outcome) → TypedAllUnder σ Δ Γ es ts → Fair R (all_owns es) → EnvFits R Σ env Γ → StateFits R Σ s
        → ((Σ' : List Ty) (vs : List Value) (s : State) → Grows Σ Σ' → StateFits R Σ' s → FitsAll R Σ' vs ts → Good R Σ' u (k vs s))
        → Good R Σ u (arguments fs go es env s k)
    unfolding arguments owns
    arguments_good env s k t_last m h p f = f _ [] s stays p fits_none
    arguments_good env s k (t_more {e = e} a b) m h p f =
        good_then wide _ (safe env s a (front (owns e) _ m) h p) λ Σ₁ v s₁ g₁ p₁ q₁.
        arguments_good env s₁ _ b (back (owns e) _ m) (env_grows g₁ h) p₁ λ Σ₂ vs s₂ g₂ p₂ q₂.
        f Σ₂ (v ∷ vs) s₂ (grows_trans g₁ g₂) p₂ (fits_more (fits_grows g₂ q₁) q₂)

    pub invoke_good : {Σ : List Ty} {g : Fun} {s : Sig} (i : ℕ) (vs : List Value) (st : State)
        → FunFits σ R Δ g s → FitsAll R Σ vs s.takes → StateFits R Σ st → Good R Σ s.gives (invoke fs go i g vs st)
    unfolding invoke
    invoke_good i vs st fun_putchar q p = good_one wide _ q λ v r. good_int wide _ r λ z. good_put wide i z st p
    invoke_good {Σ} i vs st (fun_defined a b c m) q p =
        good_enter wide vs empty _ a (subst (FitsAll R Σ vs) b q) env_empty λ env h. safe env st c m h p

    passes_good : {Σ : List Ty} {Γ : Scope Ty} {c e : Exp} (n : ℕ) (env : Env) (s : State) → TypedUnder σ Δ Γ c bool → Fair R (owns c)
        → TypedUnder σ Δ Γ e unit → Fair R (owns e) → EnvFits R Σ env Γ → StateFits R Σ s → Good R Σ unit (passes fs go n c e env s)
    unfolding passes
    passes_good zero env s a m b k h p = good_stop
    passes_good (suc n) env s a m b k h p =
        good_then wide _ (safe env s a m h p) λ Σ₁ v s₁ g₁ p₁ q₁.
        good_bool wide _ q₁ λ x _.
        good_choose wide _ _ _
        (λ _.
        good_then wide _ (safe env s₁ b k (env_grows g₁ h) p₁) λ Σ₂ w s₂ g₂ p₂ q₂.
        good_unit wide _ q₂ (passes_good n env s₂ a m b k (env_grows (grows_trans g₁ g₂) h) p₂))
        λ _. good_value stays p₁ fits_unit

    pub turns_good : {Σ : List Ty} {Γ : Scope Ty} {x : Name} {e : Exp} (n : ℕ) (through : Bool) (to by z : ℤ) (env : Env) (s : State)
        → TypedUnder σ Δ (push x int Γ) e unit → Fair R (owns e) → EnvFits R Σ env Γ → StateFits R Σ s → R.ints z
        → Good R Σ unit (turns fs go n x through to by z e env s)
    unfolding turns
    turns_good zero through to by z env s b k h p r = good_choose wide _ _ _ (λ _. good_stop) λ _. good_value stays p fits_unit
    turns_good {Σ} (suc n) through to by z env s b k h p r =
        good_choose wide _ _ _
        (λ _.
        good_then wide _ (safe (push _ _ env) s b k (env_push (fits_int r) h) p) λ Σ₁ v s₁ g₁ p₁ q₁.
        good_unit wide _ q₁
        (good_choose wide _ _ _ (λ e. turns_good {Σ = Σ₁} n through to by _ env s₁ b k (env_grows g₁ h) p₁ (wide.ints _ e)) λ _. good_value stays p₁ fits_unit))
        λ _. good_value stays p fits_unit

    pub step_good : {Σ : List Ty} {Γ : Scope Ty} {e : Exp} {t : Ty} (env : Env) (s : State)
        → TypedUnder σ Δ Γ e t → Fair R (owns e) → EnvFits R Σ env Γ → StateFits R Σ s → Good R Σ t (step fs go e env s)
    unfolding step literal_value owns
    step_good {Σ} env s (t_name {x = x} {t = t} e) m h p =
        let f = env_find Σ x t h e in
        good_when wide _ _ _ (λ v d. good_value stays p (subst (λ w. Fits R Σ w t) (some_one (sym f.1 ∙ d)) f.2))
        λ d. absurd (none_some (sym d ∙ f.1))
    step_good env s t_whole m h p = good_value stays p (fits_int (first m).0)
    step_good env s t_truth m h p = good_value stays p fits_bool
    step_good env s t_trivial m h p = good_value stays p fits_unit
    step_good env s t_decimal m h p = good_value stays p (fits_float (first m).1)
    step_good env s (t_unary {i = i} a b) m h p =
        good_then wide _ (safe env s a (rest m) h p) λ Σ₁ v s₁ g₁ p₁ q₁. unary_good wide i v s₁ b p₁ q₁
    step_good env s (t_binary {i = i} {e = e} a b c) m h p =
        good_then wide _ (safe env s a (front (owns e) _ m) h p) λ Σ₁ v s₁ g₁ p₁ q₁.
        good_choose wide _ _ _ (λ d. good_value stays p₁ (settled wide c d q₁)) λ _.
        good_then wide _ (safe env s₁ b (rest (back (owns e) _ m)) (env_grows g₁ h) p₁) λ Σ₂ w s₂ g₂ p₂ q₂.
        binary_good wide i v w s₂ c p₂ (fits_grows g₂ q₁) q₂
    step_good env s (t_follow {e = e} a b) m h p =
        good_then wide _ (safe env s a (front (owns e) _ m) h p) λ Σ₁ v s₁ g₁ p₁ q₁.
        good_unit wide _ q₁ (safe env s₁ b (rest (back (owns e) _ m)) (env_grows g₁ h) p₁)
    step_good env s (t_group a) m h p = safe env s a (rest m) h p
    step_good env s (t_block a) m h p =
        good_then wide _ (safe env s a (rest m) h p) λ Σ₁ v s₁ g₁ p₁ q₁.
        good_value stays record { counted = p₁.counted; holds = keep_holds Σ₁ _ s₁.cells p₁.holds } q₁
    step_good env s (t_call {i = i} {f = f} {ts = ts} {t = t} a e) m h p =
        let r = ready f record { takes = ts; gives = t } e in
        let fits : (g : Fun) → nearest f fs ≡ some g → FunFits σ R Δ g record { takes = ts; gives = t } =
        λ g d. subst (λ x. FunFits σ R Δ x record { takes = ts; gives = t }) (some_one (sym r.1 ∙ d)) r.2 in
        arguments_good env s _ a (rest m) h p λ Σ₁ vs s₁ g₁ p₁ q₁.
        good_when wide _ _ _ (λ g d. invoke_good i vs s₁ (fits g d) q₁ p₁) λ d. absurd (none_some (sym d ∙ r.1))
    step_good env s (t_bind {e = e} a b) m h p =
        good_then wide _ (safe env s a (front (owns e) _ (rest m)) h p) λ Σ₁ v s₁ g₁ p₁ q₁.
        safe (push _ v env) s₁ b (back (owns e) _ (rest m)) (env_push q₁ (env_grows g₁ h)) p₁
    step_good env s (t_branch {c = c} {e = e} a b d) m h p =
        let n = back (owns c) _ (rest m) in
        good_then wide _ (safe env s a (front (owns c) _ (rest m)) h p) λ Σ₁ v s₁ g₁ p₁ q₁.
        good_bool wide _ q₁ λ x _.
        good_choose wide _ _ _ (λ _. safe env s₁ b (front (owns e) _ n) (env_grows g₁ h) p₁) λ _.
        safe env s₁ d (back (owns e) _ n) (env_grows g₁ h) p₁
    step_good env s (t_loop {c = c} a b) m h p =
        passes_good s.units env s a (front (owns c) _ (rest m)) b (back (owns c) _ (rest m)) h p
    step_good env s (t_counted {es = es} a b d) m h p =
        arguments_good env s _ a (front (all_owns es) _ (rest m)) h p λ Σ₁ vs s₁ g₁ p₁ q₁.
        good_bounds wide b _ q₁ λ from to by r.
        good_choose wide _ _ _ (λ _. good_stop) λ _.
        turns_good s₁.units _ to by from env s₁ d (back (all_owns es) _ (rest m)) (env_grows g₁ h) p₁ r

  module _ {σ : Sizes} (Δ : Scope Sig) (fs : Scope Fun) (ready : Ready σ R Δ fs) where
    safe_at : (d : ℕ) → Safe σ R Δ (eval fs d)
    unfolding eval
    safe_at zero = record { at = λ env s a m h p. good_begin wide _ s _ p λ s₁ p₁. good_stop }
    safe_at (suc d) =
        let ih = safe_at d in
        record { at = λ env s a m h p. good_begin wide _ s _ p λ s₁ p₁. step_good Δ fs ready (eval fs d) ih env s₁ a m h p₁ }

    pub eval_good : {Σ : List Ty} {Γ : Scope Ty} {e : Exp} {t : Ty} (d : ℕ) (env : Env) (s : State)
        → TypedUnder σ Δ Γ e t → Fair R (owns e) → EnvFits R Σ env Γ → StateFits R Σ s → Good R Σ t (eval fs d e env s)
    eval_good d env s a m h p = (safe_at d).at env s a m h p
