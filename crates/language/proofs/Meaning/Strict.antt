-- Of a program that has a type the stricter meaning is the written one: no operand of a wrong kind is ever there without being
-- met, no call of a function that is not there, and no argument too few or too many.
use mathlib.Core.Path.{◌≡◌, refl, sym, subst}
use mathlib.Core.Bool.{Bool, true, false}
use mathlib.Core.List.{List, [], ◌∷◌}
use mathlib.Core.Option.{Option, none, some}
use Prim.Native.Nat.{ℕ, zero, suc}
use lib.IntN.{ℤ}
use Rattle.language.specs.Sizes.{Sizes, ACTIVE}
use Rattle.language.specs.Trees.{Ty, Exp, name, literal, unary, binary, follow, group}
use Rattle.language.specs.Trees.{block, call, bind, branch, loop, Exps, last, more, Param, Program, Scope, empty, push, nearest, Name, counted}
use Rattle.language.specs.Types.{HasTypeUnder}
use Rattle.language.specs.State.{Value, State, Outcome, value, stop, stuck, then, choose, when_some, want}
use Rattle.language.specs.Meaning.{Env, charge, begin, settles, Fun, putchar, defined, enter}
use Rattle.language.specs.Meaning.{arguments, invoke, passes, step, eval, start, run, with_bounds, turns}
use Rattle.language.proofs.Meaning.CellTypes.{none_some, some_one}
pub use Rattle.language.proofs.Meaning.StrictMeaning.{strict_run}
use Rattle.language.proofs.Meaning.StrictMeaning.{suits, of_kind, takes_of, as_many, bound_types, strict_each, strict_all, strict_step}
use Rattle.language.proofs.Meaning.StrictMeaning.{strict_eval}
use Rattle.language.proofs.Meaning.NeverStuck.{not_stuck}
use Rattle.language.proofs.Meaning.StrictSafe.{strict_run_good}

-- the first outcome is the second, or something was caught
data Closer : Outcome → Outcome → Type 0 where
  same : {o : Outcome} → Closer o o
  caught : {o : Outcome} → Closer stuck o

then_same : (o : Outcome) (f g : Value → State → Outcome) → ((v : Value) (s : State) → Closer (f v s) (g v s)) → Closer (then o f) (then o g)
unfolding then
then_same (value v s) f g h = h v s
then_same (stop w i s) f g h = same
then_same stuck f g h = same

closer_then : {o p : Outcome} (f g : Value → State → Outcome) → Closer o p → ((v : Value) (s : State) → Closer (f v s) (g v s))
    → Closer (then o f) (then p g)
unfolding then
closer_then f g (same {o}) h = then_same o f g h
closer_then f g caught h = caught

closer_choose : (b : Bool) (x y x' y' : Unit {0} → Outcome) → Closer (x tt) (x' tt) → Closer (y tt) (y' tt) → Closer (choose b x y) (choose b x' y')
unfolding choose
closer_choose true x y x' y' f g = f
closer_choose false x y x' y' f g = g

closer_asked : (b : Bool) (x : Unit {0} → Outcome) {o : Outcome} → Closer (x tt) o → Closer (choose b x λ _. stuck) o
unfolding choose
closer_asked true x f = f
closer_asked false x f = caught

closer_want : {A : Type 0} (o : Option A) (f g : A → Outcome) → ((a : A) → Closer (f a) (g a)) → Closer (want o f) (want o g)
unfolding when_some
closer_want none f g h = same
closer_want (some a) f g h = h a

-- it is asked for first what is wanted later
closer_found : {A : Type 0} (o : Option A) (f : A → Outcome) {x : Outcome} → ((a : A) → o ≡ some a → Closer (f a) x) → Closer (want o f) x
unfolding when_some
closer_found none f h = caught
closer_found (some a) f h = h a refl

closer_is : {A : Type 0} (o : Option A) (a : A) (g : A → Outcome) {x : Outcome} → o ≡ some a → Closer x (g a) → Closer x (want o g)
unfolding when_some
closer_is none a g e c = absurd (none_some e)
closer_is (some b) a g {x} e c = subst (λ (b : _). Closer x (g b)) (sym (some_one e)) c

closer_charge : (n i : ℕ) (s : State) (f g : State → Outcome) → ((s : State) → Closer (f s) (g s)) → Closer (charge n i s f) (charge n i s g)
unfolding charge
closer_charge zero i s f g h = same
closer_charge (suc n) i s f g h = h _

closer_begin : (i : ℕ) (s : State) (f g : State → Outcome) → ((s : State) → Closer (f s) (g s)) → Closer (begin i s f) (begin i s g)
unfolding begin
closer_begin i s f g h = closer_charge s.units i s f g h

closer_enter : (ps : List Param) (vs : List Value) (env : Env) (f g : Env → Outcome) → ((env : Env) → Closer (f env) (g env))
    → Closer (enter ps vs env f) (enter ps vs env g)
unfolding enter
closer_enter [] [] env f g h = h env
closer_enter [] (v ∷ vs) env f g h = same
closer_enter (p ∷ ps) [] env f g h = same
closer_enter (p ∷ ps) (v ∷ vs) env f g h = closer_enter ps vs (push p.called v env) f g h

module _ (fs : Scope Fun) (go on : Exp → Env → State → Outcome) (ih : (e : Exp) (env : Env) (s : State) → Closer (go e env s) (on e env s)) where
  closer_each : (es : Exps) (ts : List Ty) (env : Env) (s : State) (f g : List Value → State → Outcome)
      → ((vs : List Value) (s : State) → Closer (f vs s) (g vs s)) → Closer (strict_each fs go es ts env s f) (arguments fs on es env s g)
  unfolding strict_each arguments
  closer_each last [] env s f g h = h [] s
  closer_each last (t ∷ ts) env s f g h = caught
  closer_each (more e es) [] env s f g h = caught
  closer_each (more e es) (t ∷ ts) env s f g h =
      closer_then _ _ (ih e env s) λ v s₁. closer_asked (of_kind t v) _ (closer_each es ts env s₁ _ _ λ vs s₂. h (v ∷ vs) s₂)

  closer_all : (es : Exps) (ts : List Ty) (env : Env) (s : State) (f g : List Value → State → Outcome)
      → ((vs : List Value) (s : State) → Closer (f vs s) (g vs s)) → Closer (strict_all fs go es ts env s f) (arguments fs on es env s g)
  unfolding strict_all
  closer_all es ts env s f g h = closer_asked (as_many es ts) _ (closer_each es ts env s f g h)

  closer_invoke : (i : ℕ) (g : Fun) (vs : List Value) (s : State) → Closer (invoke fs go i g vs s) (invoke fs on i g vs s)
  unfolding invoke
  closer_invoke i putchar vs s = same
  closer_invoke i (defined ps e) vs s = closer_enter ps vs empty _ _ λ env. ih e env s

  closer_passes : (n : ℕ) (c e : Exp) (env : Env) (s : State) → Closer (passes fs go n c e env s) (passes fs on n c e env s)
  unfolding passes
  closer_passes zero c e env s = same
  closer_passes (suc n) c e env s =
      closer_then _ _ (ih c env s) λ v s₁.
      closer_want _ _ _ λ b.
      closer_choose b _ _ _ _ (closer_then _ _ (ih e env s₁) λ w s₂. closer_want _ _ _ λ _. closer_passes n c e env s₂) same

  closer_turns : (n : ℕ) (x : Name) (through : Bool) (to by z : ℤ) (e : Exp) (env : Env) (s : State)
      → Closer (turns fs go n x through to by z e env s) (turns fs on n x through to by z e env s)
  unfolding turns
  closer_turns zero x through to by z e env s = same
  closer_turns (suc n) x through to by z e env s =
      closer_choose _ _ _ _ _
      (closer_then _ _ (ih e _ s) λ v s₁.
      closer_want _ _ _ λ _. closer_choose _ _ _ _ _ (closer_turns n x through to by _ e env s₁) same)
      same

  closer_bounds : (vs : List Value) (f g : ℤ → ℤ → ℤ → Outcome) → ((x y z : ℤ) → Closer (f x y z) (g x y z)) → Closer (with_bounds vs f) (with_bounds vs g)
  unfolding with_bounds
  closer_bounds [] f g h = same
  closer_bounds (v ∷ []) f g h = same
  closer_bounds (v ∷ w ∷ []) f g h = closer_want _ _ _ λ x. closer_want _ _ _ λ y. h x y _
  closer_bounds (v ∷ w ∷ t ∷ []) f g h = closer_want _ _ _ λ x. closer_want _ _ _ λ y. closer_want _ _ _ λ z. h x y z
  closer_bounds (v ∷ w ∷ t ∷ r ∷ vs) f g h = same

  closer_step : (e : Exp) (env : Env) (s : State) → Closer (strict_step fs go e env s) (step fs on e env s)
  unfolding strict_step step
  closer_step (name i x) env s = same
  closer_step (literal i l) env s = same
  closer_step (unary i o e) env s = closer_then _ _ (ih e env s) λ v s₁. same
  closer_step (binary i o e f) env s =
      closer_then _ _ (ih e env s) λ v s₁.
      closer_asked (suits o v) _ (closer_choose (settles o v) _ _ _ _ same (closer_then _ _ (ih f env s₁) λ w s₂. same))
  closer_step (follow i e f) env s = closer_then _ _ (ih e env s) λ v s₁. closer_want _ _ _ λ _. ih f env s₁
  closer_step (group i e) env s = ih e env s
  closer_step (block i e) env s = closer_then _ _ (ih e env s) λ v s₁. same
  closer_step (call i f es) env s =
      closer_found (nearest f fs) _ λ g d.
      closer_all es (takes_of g) env s _ _ λ vs s₁. closer_is (nearest f fs) g _ d (closer_invoke i g vs s₁)
  closer_step (bind i x e f) env s = closer_then _ _ (ih e env s) λ v s₁. ih f (push x v env) s₁
  closer_step (branch i c e f) env s =
      closer_then _ _ (ih c env s) λ v s₁. closer_want _ _ _ λ b. closer_choose b _ _ _ _ (ih e env s₁) (ih f env s₁)
  closer_step (loop i c e) env s = closer_passes s.units c e env s
  closer_step (counted i x through es e) env s =
      closer_all es (bound_types es) env s _ _ λ vs s₁.
      closer_bounds vs _ _ λ from to by.
      closer_choose _ _ _ _ _ same (closer_turns s₁.units x through to by from e env s₁)

closer_eval : (fs : Scope Fun) (d : ℕ) (e : Exp) (env : Env) (s : State) → Closer (strict_eval fs d e env s) (eval fs d e env s)
unfolding strict_eval eval
closer_eval fs zero e env s = same
closer_eval fs (suc d) e env s = closer_begin _ s _ _ λ s₁. closer_step fs (strict_eval fs d) (eval fs d) (closer_eval fs d) e env s₁

closer_run : (p : Program) (allowance room : ℕ) → Closer (strict_run p allowance room) (run p allowance room)
unfolding strict_run run
closer_run p allowance room = closer_eval _ ACTIVE p.main empty (start allowance room)

closer_same : {o p : Outcome} → Closer o p → (o ≡ stuck → ⊥) → o ≡ p
closer_same same h = refl
closer_same caught h = absurd (h refl)

-- A program that has a type means the same where every operand is asked for its kind as soon as it is there, and a call for its
-- function and its arguments' number before the first of them.
pub strict_same : {σ : Sizes} (p : Program) (t : Ty) (allowance room : ℕ) → HasTypeUnder σ p t → strict_run p allowance room ≡ run p allowance room
strict_same p t allowance room h = closer_same (closer_run p allowance room) (not_stuck (strict_run_good p t allowance room h))
