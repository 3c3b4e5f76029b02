-- For the code, which binds each argument as it is worked out: with as many arguments as parameters that is the same.
use mathlib.Core.Path.{◌≡◌, refl}
use mathlib.Core.List.{List, [], ◌∷◌}
use Rattle.language.specs.Trees.{Exp, Exps, last, more, Param, Scope, push}
use Rattle.language.specs.State.{Value, State, Outcome, value, stop, stuck, then}
use Rattle.language.specs.Meaning.{Env, Fun, enter, arguments}

then_cong : (o : Outcome) (f g : Value → State → Outcome) → ((v : Value) (s : State) → f v s ≡ g v s) → then o f ≡ then o g
unfolding then
then_cong (value v s) f g h = h v s
then_cong (stop n i s) f g h = refl
then_cong stuck f g h = refl

-- as many
pub data Matches : List Param → Exps → Type 0 where
  matches_none : Matches [] last
  matches_more : {p : Param} {ps : List Param} {e : Exp} {es : Exps} → Matches ps es → Matches (p ∷ ps) (more e es)

module _ (fs : Scope Fun) (go : Exp → Env → State → Outcome) where
  unfoldable pub passing : List Param → Exps → Env → Env → State → (Env → State → Outcome) → Outcome
  passing [] last env inner s k = k inner s
  passing [] (more e es) env inner s k = stuck
  passing (p ∷ ps) last env inner s k = stuck
  passing (p ∷ ps) (more e es) env inner s k = then (go e env s) λ v s. passing ps es env (push p.called v inner) s k

  -- `pre` are the values that stand before
  arguments_cong : (es : Exps) (env : Env) (s : State) (f g : List Value → State → Outcome) → ((vs : List Value) (s : State) → f vs s ≡ g vs s)
      → arguments fs go es env s f ≡ arguments fs go es env s g
  unfolding arguments
  arguments_cong last env s f g h = h [] s
  arguments_cong (more e es) env s f g h =
      then_cong _ _ _ λ v s₁. arguments_cong es env s₁ _ _ λ vs s₂. h (v ∷ vs) s₂

  pub passing_is : {ps : List Param} {es : Exps} (env inner : Env) (s : State) (k : Env → State → Outcome) → Matches ps es
      → arguments fs go es env s (λ vs s. enter ps vs inner λ env. k env s) ≡ passing ps es env inner s k
  unfolding arguments enter passing
  passing_is env inner s k matches_none = refl
  passing_is env inner s k (matches_more {p} m) = then_cong _ _ _ λ v s₁. passing_is env (push p.called v inner) s₁ k m
