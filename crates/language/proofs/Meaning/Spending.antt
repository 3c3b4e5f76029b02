-- A node that begins uses a unit, and a cell is born only where one is used. So a `while` is its unrolling, and births fit in the allowance.
use mathlib.Core.Path.{◌≡◌, refl, sym, ◌∙◌}
use mathlib.Core.Bool.{Bool, true, false}
use mathlib.Core.List.{List, [], ◌∷◌}
use mathlib.Core.Option.{Option, none, some}
use Prim.Native.Nat.{ℕ, zero, suc, ◌+◌, ◌-◌, ◌≤◌}
use native.Mathlib.Omega.{arith}
use lib.IntN.{ℤ, pos, negsuc}
use lib.Ieee.{Float}
use Rattle.language.specs.Sizes.{ACTIVE}
use Rattle.language.specs.Trees.{Unary, minus, not, fetch, new, Binary, add, sub, mul, div, less, equal, and, or}
use Rattle.language.specs.Trees.{assign, Exp, name, literal, unary, binary, follow, group, block, call, bind, branch}
use Rattle.language.specs.Trees.{loop, Exps, last, more, own, Param, Program, Scope, empty, push, Name, counted}
use Rattle.language.specs.State.{Stop, no_unit, Value, nothing, State, Outcome, value, stop}
use Rattle.language.specs.State.{stuck, then, as_bool, as_unit, choose, when_some, want, alike}
use Rattle.language.specs.Meaning.{Env, charge, begin, fit, create, apply_unary, quotient, apply_binary, emit, put, Fun, putchar}
use Rattle.language.specs.Meaning.{defined, enter, arguments, invoke, passes, step, eval, run, start, with_bounds, turns}

-- at most u units are left, and with the births they make at most w
pub record Within (u w : ℕ) (s : State) : Type 0 where
  pub few : s.units ≤ u
  pub sum : s.births + s.units ≤ w

pub data Spent (u w : ℕ) : Outcome → Type 0 where
  spent_value : {v : Value} {s : State} → Within u w s → Spent u w (value v s)
  spent_stop : {why : Stop} {i : ℕ} {s : State} → Within u w s → Spent u w (stop why i s)
  spent_stuck : Spent u w stuck

wider : {u w u' w' : ℕ} {s : State} → u ≤ u' → w ≤ w' → Within u w s → Within u' w' s
wider a b h = record { few = omega (arith, h.few); sum = omega (arith, h.sum) }

weaker : {u w u' w' : ℕ} {o : Outcome} → u ≤ u' → w ≤ w' → Spent u w o → Spent u' w' o
weaker a b (spent_value h) = spent_value (wider a b h)
weaker a b (spent_stop h) = spent_stop (wider a b h)
weaker a b spent_stuck = spent_stuck

module _ {u w : ℕ} where
  spent_then : {o : Outcome} (f : Value → State → Outcome) → Spent u w o → ((v : Value) (s : State) → Within u w s → Spent u w (f v s)) → Spent u w (then o f)
  unfolding then
  spent_then f (spent_value {v} {s} h) g = g v s h
  spent_then f (spent_stop h) g = spent_stop h
  spent_then f spent_stuck g = spent_stuck

  spent_choose : (b : Bool) (x y : Unit {0} → Outcome) → Spent u w (x tt) → Spent u w (y tt) → Spent u w (choose b x y)
  unfolding choose
  spent_choose true x y f g = f
  spent_choose false x y f g = g

  spent_when : {A : Type 0} (o : Option A) (f : A → Outcome) (x : Unit {0} → Outcome) → ((a : A) → Spent u w (f a))
      → Spent u w (x tt) → Spent u w (when_some o f x)
  unfolding when_some
  spent_when none f x h p = p
  spent_when (some a) f x h p = h a

  spent_want : {A : Type 0} (o : Option A) (f : A → Outcome) → ((a : A) → Spent u w (f a)) → Spent u w (want o f)
  spent_want o f h = spent_when o f _ h spent_stuck

  spent_alike : (v x : Value) (f : ℤ → ℤ → Outcome) (g : Float → Float → Outcome) → ((y z : ℤ) → Spent u w (f y z))
      → ((y z : Float) → Spent u w (g y z)) → Spent u w (alike v x f g)
  unfolding alike
  spent_alike v x f g a b =
      spent_when _ _ _ (λ y. spent_want _ _ λ z. a y z) (spent_want _ _ λ y. spent_want _ _ λ z. b y z)

  spent_fit : (i : ℕ) (z : ℤ) (s : State) → Within u w s → Spent u w (fit i z s)
  unfolding fit
  spent_fit i z s h = spent_choose _ _ _ (spent_value h) (spent_stop h)

  spent_binary : (i : ℕ) (o : Binary) (v x : Value) (s : State) → Within u w s → Spent u w (apply_binary i o v x s)
  unfolding apply_binary quotient
  spent_binary i add v x s h = spent_alike _ _ _ _ (λ _ _. spent_fit i _ s h) λ _ _. spent_value h
  spent_binary i sub v x s h = spent_alike _ _ _ _ (λ _ _. spent_fit i _ s h) λ _ _. spent_value h
  spent_binary i mul v x s h = spent_alike _ _ _ _ (λ _ _. spent_fit i _ s h) λ _ _. spent_value h
  spent_binary i div v x s h =
      spent_alike _ _ _ _ (λ _ _. spent_choose _ _ _ (spent_stop h) (spent_fit i _ s h)) λ _ _. spent_value h
  spent_binary i less v x s h = spent_alike _ _ _ _ (λ _ _. spent_value h) λ _ _. spent_value h
  spent_binary i equal v x s h = spent_want _ _ λ _. spent_want _ _ λ _. spent_value h
  spent_binary i and v x s h = spent_want _ _ λ _. spent_want _ _ λ _. spent_value h
  spent_binary i or v x s h = spent_want _ _ λ _. spent_want _ _ λ _. spent_value h
  spent_binary i assign v x s h =
      spent_want _ _ λ _. spent_when _ _ _ (λ _. spent_value record { few = h.few; sum = h.sum }) (spent_stop h)

  spent_emit : (r i n : ℕ) (s : State) → Within u w s → Spent u w (emit r i n s)
  unfolding emit
  spent_emit zero i n s h = spent_stop h
  spent_emit (suc r) i n s h = spent_value record { few = h.few; sum = h.sum }

  spent_put : (i : ℕ) (z : ℤ) (s : State) → Within u w s → Spent u w (put i z s)
  unfolding put
  spent_put i (pos n) s h = spent_choose _ _ _ (spent_emit s.room i n s h) (spent_stop h)
  spent_put i (negsuc n) s h = spent_stop h

  spent_bounds : (vs : List Value) (f : ℤ → ℤ → ℤ → Outcome) → ((x y z : ℤ) → Spent u w (f x y z)) → Spent u w (with_bounds vs f)
  unfolding with_bounds
  spent_bounds [] f h = spent_stuck
  spent_bounds (v ∷ []) f h = spent_stuck
  spent_bounds (v ∷ w ∷ []) f h = spent_want _ _ λ x. spent_want _ _ λ y. h x y _
  spent_bounds (v ∷ w ∷ t ∷ []) f h = spent_want _ _ λ x. spent_want _ _ λ y. spent_want _ _ λ z. h x y z
  spent_bounds (v ∷ w ∷ t ∷ r ∷ vs) f h = spent_stuck

  spent_enter : (ps : List Param) (vs : List Value) (env : Env) (f : Env → Outcome) → ((env : Env) → Spent u w (f env)) → Spent u w (enter ps vs env f)
  unfolding enter
  spent_enter [] [] env f h = h env
  spent_enter [] (v ∷ vs) env f h = spent_stuck
  spent_enter (p ∷ ps) [] env f h = spent_stuck
  spent_enter (p ∷ ps) (v ∷ vs) env f h = spent_enter ps vs (push p.called v env) f h

-- only `ref` adds a birth, for the unit that its node used
spent_unary : {u w : ℕ} (i : ℕ) (o : Unary) (v : Value) (s : State) → Within u w s → Spent u (w + 1) (apply_unary i o v s)
unfolding apply_unary create
spent_unary {u} {w} i minus v s h = spent_want _ _ λ _. spent_fit i _ s (wider (omega arith) (omega arith) h)
spent_unary i not v s h = spent_want _ _ λ _. spent_value (wider (omega arith) (omega arith) h)
spent_unary i fetch v s h =
    spent_want _ _ λ _. spent_when _ _ _ (λ _. spent_value (wider (omega arith) (omega arith) h)) (spent_stop (wider (omega arith) (omega arith) h))
spent_unary i new v s h =
    spent_choose _ _ _ (spent_value record { few = h.few; sum = omega (arith, h.sum) }) (spent_stop (wider (omega arith) (omega arith) h))

lift_then : {u w : ℕ} {o : Outcome} (f : Value → State → Outcome) → Spent u w o
    → ((v : Value) (s : State) → Within u w s → Spent u (w + 1) (f v s)) → Spent u (w + 1) (then o f)
unfolding then
lift_then f (spent_value {v} {s} h) g = g v s h
lift_then f (spent_stop h) g = spent_stop (wider (omega arith) (omega arith) h)
lift_then f spent_stuck g = spent_stuck

abbrev Node : Type 0
Node = Exp → Env → State → Outcome

-- a node begun in s
abbrev pub Spends : Node → Type 0
Spends go = (e : Exp) (env : Env) (s : State) → Spent (s.units - 1) (s.births + s.units) (go e env s)

module _ (fs : Scope Fun) (go : Node) (ih : Spends go) where
  -- a node begun in s, where s is within u and w
  part : {u w : ℕ} (e : Exp) (env : Env) (s : State) → Within u w s → Spent u w (go e env s)
  part e env s h = weaker (omega (arith, h.few)) h.sum (ih e env s)

  module _ {u w : ℕ} where
    spent_arguments : (es : Exps) (env : Env) (s : State) (f : List Value → State → Outcome) → Within u w s
        → ((vs : List Value) (s : State) → Within u w s → Spent u w (f vs s)) → Spent u w (arguments fs go es env s f)
    unfolding arguments
    spent_arguments last env s f h g = g [] s h
    spent_arguments (more e es) env s f h g = spent_then _ (part e env s h) λ v s₁ h₁. spent_arguments es env s₁ _ h₁ λ vs s₂ h₂. g (v ∷ vs) s₂ h₂

    spent_invoke : (i : ℕ) (g : Fun) (vs : List Value) (s : State) → Within u w s → Spent u w (invoke fs go i g vs s)
    unfolding invoke
    spent_invoke i putchar vs s h = spent_want _ _ λ v. spent_want _ _ λ z. spent_put i z s h
    spent_invoke i (defined ps e) vs s h = spent_enter ps vs empty _ λ env. part e env s h

    spent_passes : (n : ℕ) (c e : Exp) (env : Env) (s : State) → Within u w s → Spent u w (passes fs go n c e env s)
    unfolding passes
    spent_passes zero c e env s h = spent_stop h
    spent_passes (suc n) c e env s h =
        spent_then _ (part c env s h) λ v s₁ h₁. spent_want _ _ λ b.
        spent_choose b _ _ (spent_then _ (part e env s₁ h₁) λ x s₂ h₂. spent_want _ _ (λ _. spent_passes n c e env s₂ h₂)) (spent_value h₁)

    spent_turns : (n : ℕ) (x : Name) (through : Bool) (to by z : ℤ) (e : Exp) (env : Env) (s : State) → Within u w s
        → Spent u w (turns fs go n x through to by z e env s)
    unfolding turns
    spent_turns zero x through to by z e env s h = spent_choose _ _ _ (spent_stop h) (spent_value h)
    spent_turns (suc n) x through to by z e env s h =
        spent_choose _ _ _
        (spent_then _ (part e _ s h) λ v s₁ h₁. spent_want _ _ λ _. spent_choose _ _ _ (spent_turns n x through to by _ e env s₁ h₁) (spent_value h₁))
        (spent_value h)

    spent_step : (e : Exp) (env : Env) (s : State) → Within u w s → Spent u (w + 1) (step fs go e env s)
    unfolding step
    spent_step (name i x) env s h = spent_want _ _ λ v. spent_value (wider (omega arith) (omega arith) h)
    spent_step (literal i l) env s h = spent_value (wider (omega arith) (omega arith) h)
    spent_step (unary i o e) env s h = lift_then _ (part e env s h) λ v s₁ h₁. spent_unary i o v s₁ h₁
    spent_step (binary i o e f) env s h =
        weaker (omega arith) (omega arith) (spent_then _ (part e env s h) λ v s₁ h₁.
        spent_choose _ _ _ (spent_value h₁) (spent_then _ (part f env s₁ h₁) λ x s₂ h₂. spent_binary i o v x s₂ h₂))
    spent_step (follow i e f) env s h =
        weaker (omega arith) (omega arith) (spent_then _ (part e env s h) λ v s₁ h₁. spent_want _ _ (λ _. part f env s₁ h₁))
    spent_step (group i e) env s h = weaker (omega arith) (omega arith) (part e env s h)
    spent_step (block i e) env s h =
        weaker (omega arith) (omega arith) (spent_then _ (part e env s h) λ v s₁ h₁. spent_value record { few = h₁.few; sum = h₁.sum })
    spent_step (call i f es) env s h =
        weaker (omega arith) (omega arith) (spent_arguments es env s _ h λ vs s₁ h₁. spent_want _ _ λ g. spent_invoke i g vs s₁ h₁)
    spent_step (bind i x e f) env s h =
        weaker (omega arith) (omega arith) (spent_then _ (part e env s h) λ v s₁ h₁. part f (push x v env) s₁ h₁)
    spent_step (branch i c e f) env s h =
        weaker (omega arith) (omega arith)
        (spent_then _ (part c env s h) λ v s₁ h₁. spent_want _ _ λ b. spent_choose b _ _ (part e env s₁ h₁) (part f env s₁ h₁))
    spent_step (loop i c e) env s h = weaker (omega arith) (omega arith) (spent_passes s.units c e env s h)
    spent_step (counted i x through es e) env s h =
        weaker (omega arith) (omega arith) (spent_arguments es env s _ h λ vs s₁ h₁.
        spent_bounds vs _ λ from to by. spent_choose _ _ _ (spent_stop h₁) (spent_turns s₁.units x through to by from e env s₁ h₁))

spent_charge : {u w : ℕ} (n i : ℕ) (s : State) (f : State → Outcome) → n ≡ s.units → u ≡ n - 1 → w ≡ s.births + n
    → ((s : State) (w : ℕ) → Within u w s → Spent u (w + 1) (f s)) → Spent u w (charge n i s f)
unfolding charge
spent_charge zero i s f e a b h = spent_stop {s = s} record { few = omega arith; sum = omega arith }
spent_charge (suc n) i s f e a b h =
    weaker (omega arith) (omega arith)
    (h record { units = n; births = s.births; room = s.room; cells = s.cells; printed = s.printed } (s.births + n)
    record { few = omega arith; sum = omega arith })

pub spends : (fs : Scope Fun) (d : ℕ) → Spends (eval fs d)
unfolding eval begin
spends fs zero e env s = spent_charge s.units _ s _ refl refl refl λ s₁ w h. spent_stop (wider (omega arith) (omega arith) h)
spends fs (suc d) e env s = spent_charge s.units _ s _ refl refl refl λ s₁ w h. spent_step fs (eval fs d) (spends fs d) e env s₁ h

-- no unit is left
pub at_end : (fs : Scope Fun) (d : ℕ) (e : Exp) (env : Env) (s : State) → s.units ≡ 0 → eval fs d e env s ≡ stop no_unit (own e) s
unfolding eval begin charge
at_end fs zero e env s h = rw h
at_end fs (suc d) e env s h = rw h

pub then_same : {u w : ℕ} {o : Outcome} (f g : Value → State → Outcome) → Spent u w o
    → ((v : Value) (s : State) → Within u w s → f v s ≡ g v s) → then o f ≡ then o g
unfolding then
then_same f g (spent_value {v} {s} h) k = k v s h
then_same f g (spent_stop h) k = refl
then_same f g spent_stuck k = refl

pub want_same : {A : Type 0} (o : Option A) (f g : A → Outcome) → ((a : A) → f a ≡ g a) → want o f ≡ want o g
unfolding when_some
want_same none f g h = refl
want_same (some a) f g h = h a

pub choose_same : (b : Bool) (x y x' : Unit {0} → Outcome) → x tt ≡ x' tt → choose b x y ≡ choose b x' y
unfolding choose
choose_same true x y x' h = h
choose_same false x y x' h = refl

pub then_stop : (o : Outcome) (n : Stop) (i : ℕ) (s : State) (f : Value → State → Outcome) → o ≡ stop n i s → then o f ≡ stop n i s
unfolding then
then_stop o n i s f e = rw e

module _ (fs : Scope Fun) (d : ℕ) (c e : Exp) (env : Env) where
  -- any number of passes that the units allow comes to the same
  pub enough : (n m : ℕ) (s : State) → s.units ≤ n → s.units ≤ m → passes fs (eval fs d) n c e env s ≡ passes fs (eval fs d) m c e env s
  unfolding passes
  enough zero zero s h k = refl
  enough zero (suc m) s h k = sym (then_stop _ _ _ _ _ (at_end fs d c env s (omega arith)))
  enough (suc n) zero s h k = then_stop _ _ _ _ _ (at_end fs d c env s (omega arith))
  enough (suc n) (suc m) s h k =
      then_same _ _ (spends fs d c env s) λ v s₁ w₁.
      want_same _ _ _ λ b.
      choose_same b _ _ _
      (then_same _ _ (spends fs d e env s₁) λ x s₂ w₂. want_same _ _ _ (λ _. enough n m s₂ (omega (arith, w₁.few, w₂.few)) (omega (arith, w₁.few, w₂.few))))

  abbrev pub while : State → Outcome
  while s = passes fs (eval fs d) s.units c e env s

  -- a `while` is a test and, if it passes, the body and the `while` again
  pub while_is : (s : State) → while s ≡ then (eval fs d c env s) λ v s.
      want (as_bool v) λ b. choose b (λ _. then (eval fs d e env s) λ v s. want (as_unit v) λ _. while s) λ _. value nothing s
  unfolding passes
  while_is s =
      enough s.units (suc s.units) s (omega arith) (omega arith) ∙
      (then_same _ _ (spends fs d c env s) λ v s₁ w₁.
      want_same _ _ _ λ b.
      choose_same b _ _ _
      (then_same _ _ (spends fs d e env s₁) λ x s₂ w₂. want_same _ _ _ (λ _. enough s.units s₂.units s₂ (omega (arith, w₁.few, w₂.few)) (omega arith))))

-- births fit in the allowance
pub births_few : (p : Program) (allowance room : ℕ) → Spent (allowance - 1) allowance (run p allowance room)
unfolding run
births_few p allowance room = weaker (omega arith) (omega arith) (spends _ ACTIVE p.main empty (start allowance room))
