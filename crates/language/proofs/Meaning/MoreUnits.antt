-- More units change nothing but stop 50, and a longer output nothing but stop 57: any other outcome is the same, with as many units
-- more left and as many bytes more free.
use mathlib.Core.Path.{◌≡◌, refl, ap, subst, ◌∙◌}
use mathlib.Core.Bool.{Bool, true, false}
use mathlib.Core.List.{List, [], ◌∷◌}
use mathlib.Core.Option.{Option, none, some}
use Prim.Native.Nat.{ℕ, zero, suc, ◌+◌, ◌<◌}
use native.Mathlib.Omega.{arith}
use lib.IntN.{ℤ, pos, negsuc}
use lib.Ieee.{Float}
use Rattle.language.specs.Sizes.{ACTIVE}
use Rattle.language.specs.Trees.{Unary, minus, not, fetch, new, Binary, add, sub, mul, div, less, equal, and, or}
use Rattle.language.specs.Trees.{assign, Exp, name, literal, unary, binary, follow, group, block, call, bind}
use Rattle.language.specs.Trees.{branch, loop, Exps, last, more, Param, Program, Scope, empty, push, Name, counted}
use Rattle.language.specs.State.{Stop, no_unit, output_full, Value, State, with_units, Outcome, value, stop, stuck, then, choose, when_some, want, alike}
use Rattle.language.specs.Meaning.{Env, charge, begin, fit, create, apply_unary, quotient, apply_binary, emit, put, Fun, putchar}
use Rattle.language.specs.Meaning.{defined, enter, arguments, invoke, passes, step, eval, run, start, with_bounds, turns}

-- k units more left, and j bytes more free
abbrev pub plus : ℕ → ℕ → State → State
plus k j s = record { units = s.units + k; births = s.births; room = s.room + j; cells = s.cells; printed = s.printed }

-- the second outcome is the first with so many more, unless the first is a stop for want of them
pub data More (k j : ℕ) : Outcome → Outcome → Type 0 where
  more_value : {v : Value} {s : State} → More k j (value v s) (value v (plus k j s))
  more_stop : {w : Stop} {i : ℕ} {s : State} → More k j (stop w i s) (stop w i (plus k j s))
  more_50 : {i : ℕ} {s : State} {o : Outcome} → 0 < k → More k j (stop no_unit i s) o
  more_57 : {i : ℕ} {s : State} {o : Outcome} → 0 < j → More k j (stop output_full i s) o
  more_stuck : More k j stuck stuck

module _ (k j : ℕ) where
  more_then : {o p : Outcome} (f g : Value → State → Outcome) → More k j o p → ((v : Value) (s : State) → More k j (f v s) (g v (plus k j s)))
      → More k j (then o f) (then p g)
  unfolding then
  more_then f g (more_value {v} {s}) h = h v s
  more_then f g more_stop h = more_stop
  more_then f g (more_50 x) h = more_50 x
  more_then f g (more_57 x) h = more_57 x
  more_then f g more_stuck h = more_stuck

  more_choose : (b : Bool) (x y x' y' : Unit {0} → Outcome) → More k j (x tt) (x' tt) → More k j (y tt) (y' tt) → More k j (choose b x y) (choose b x' y')
  unfolding choose
  more_choose true x y x' y' f g = f
  more_choose false x y x' y' f g = g

  more_when : {A : Type 0} (o : Option A) (f g : A → Outcome) (x y : Unit {0} → Outcome) → ((a : A) → More k j (f a) (g a)) → More k j (x tt) (y tt)
      → More k j (when_some o f x) (when_some o g y)
  unfolding when_some
  more_when none f g x y h p = p
  more_when (some a) f g x y h p = h a

  more_want : {A : Type 0} (o : Option A) (f g : A → Outcome) → ((a : A) → More k j (f a) (g a)) → More k j (want o f) (want o g)
  more_want o f g h = more_when o f g _ _ h more_stuck

  more_alike : (v w : Value) {f g : ℤ → ℤ → Outcome} {f' g' : Float → Float → Outcome} → ((x y : ℤ) → More k j (f x y) (g x y))
      → ((x y : Float) → More k j (f' x y) (g' x y)) → More k j (alike v w f f') (alike v w g g')
  unfolding alike
  more_alike v w a b =
      more_when _ _ _ _ _ (λ x. more_want _ _ _ λ y. a x y) (more_want _ _ _ λ x. more_want _ _ _ λ y. b x y)

  more_charge : (n m i : ℕ) (s : State) (f g : State → Outcome) → m ≡ n + k → ((s : State) → More k j (f s) (g (plus k j s)))
      → More k j (charge n i s f) (charge m i (plus k j s) g)
  unfolding charge
  more_charge zero zero i s f g e h = more_stop
  more_charge zero (suc m) i s f g e h = more_50 (omega arith)
  more_charge (suc n) zero i s f g e h = absurd (omega arith)
  more_charge (suc n) (suc m) i s f g e h =
      let d : m ≡ n + k = omega arith in
      rw d (h record { units = n; births = s.births; room = s.room; cells = s.cells; printed = s.printed })

  more_begin : (i : ℕ) (s : State) (f g : State → Outcome) → ((s : State) → More k j (f s) (g (plus k j s))) → More k j (begin i s f) (begin i (plus k j s) g)
  unfolding begin
  more_begin i s f g h = more_charge s.units (s.units + k) i s f g refl h

  more_fit : (i : ℕ) (z : ℤ) (s : State) → More k j (fit i z s) (fit i z (plus k j s))
  unfolding fit
  more_fit i z s = more_choose _ _ _ _ _ more_value more_stop

  more_unary : (i : ℕ) (o : Unary) (v : Value) (s : State) → More k j (apply_unary i o v s) (apply_unary i o v (plus k j s))
  unfolding apply_unary create
  more_unary i minus v s = more_want _ _ _ λ x. more_fit i _ s
  more_unary i not v s = more_want _ _ _ λ b. more_value
  more_unary i fetch v s = more_want _ _ _ λ b. more_when _ _ _ _ _ (λ w. more_value) more_stop
  more_unary i new v s = more_choose _ _ _ _ _ more_value more_stop

  more_binary : (i : ℕ) (o : Binary) (v w : Value) (s : State) → More k j (apply_binary i o v w s) (apply_binary i o v w (plus k j s))
  unfolding apply_binary quotient
  more_binary i add v w s = more_alike _ _ (λ x y. more_fit i _ s) λ x y. more_value
  more_binary i sub v w s = more_alike _ _ (λ x y. more_fit i _ s) λ x y. more_value
  more_binary i mul v w s = more_alike _ _ (λ x y. more_fit i _ s) λ x y. more_value
  more_binary i div v w s = more_alike _ _ (λ x y. more_choose _ _ _ _ _ more_stop (more_fit i _ s)) λ x y. more_value
  more_binary i less v w s = more_alike _ _ (λ x y. more_value) λ x y. more_value
  more_binary i equal v w s = more_want _ _ _ λ x. more_want _ _ _ λ y. more_value
  more_binary i and v w s = more_want _ _ _ λ x. more_want _ _ _ λ y. more_value
  more_binary i or v w s = more_want _ _ _ λ x. more_want _ _ _ λ y. more_value
  more_binary i assign v w s = more_want _ _ _ λ b. more_when _ _ _ _ _ (λ _. more_value) more_stop

  more_emit : (r m i n : ℕ) (s : State) → m ≡ r + j → More k j (emit r i n s) (emit m i n (plus k j s))
  unfolding emit
  more_emit zero zero i n s e = more_stop
  more_emit zero (suc m) i n s e = more_57 (omega arith)
  more_emit (suc r) zero i n s e = absurd (omega arith)
  more_emit (suc r) (suc m) i n s e = let d : m ≡ r + j = omega arith in rw d more_value

  more_put : (i : ℕ) (z : ℤ) (s : State) → More k j (put i z s) (put i z (plus k j s))
  unfolding put
  more_put i (pos n) s = more_choose _ _ _ _ _ (more_emit s.room (s.room + j) i n s refl) more_stop
  more_put i (negsuc n) s = more_stop

  more_bounds : (vs : List Value) (f g : ℤ → ℤ → ℤ → Outcome) → ((x y z : ℤ) → More k j (f x y z) (g x y z)) → More k j (with_bounds vs f) (with_bounds vs g)
  unfolding with_bounds
  more_bounds [] f g h = more_stuck
  more_bounds (v ∷ []) f g h = more_stuck
  more_bounds (v ∷ w ∷ []) f g h = more_want _ _ _ λ x. more_want _ _ _ λ y. h x y _
  more_bounds (v ∷ w ∷ t ∷ []) f g h = more_want _ _ _ λ x. more_want _ _ _ λ y. more_want _ _ _ λ z. h x y z
  more_bounds (v ∷ w ∷ t ∷ r ∷ vs) f g h = more_stuck

  more_enter : (ps : List Param) (vs : List Value) (env : Env) (f g : Env → Outcome) → ((env : Env) → More k j (f env) (g env))
      → More k j (enter ps vs env f) (enter ps vs env g)
  unfolding enter
  more_enter [] [] env f g h = h env
  more_enter [] (v ∷ vs) env f g h = more_stuck
  more_enter (p ∷ ps) [] env f g h = more_stuck
  more_enter (p ∷ ps) (v ∷ vs) env f g h = more_enter ps vs (push p.called v env) f g h

  module _ (fs : Scope Fun) (go : Exp → Env → State → Outcome)
      (ih : (e : Exp) (env : Env) (s : State) → More k j (go e env s) (go e env (plus k j s))) where
    more_arguments : (es : Exps) (env : Env) (s : State) (f g : List Value → State → Outcome)
        → ((vs : List Value) (s : State) → More k j (f vs s) (g vs (plus k j s)))
        → More k j (arguments fs go es env s f) (arguments fs go es env (plus k j s) g)
    unfolding arguments
    more_arguments last env s f g h = h [] s
    more_arguments (more e es) env s f g h =
        more_then _ _ (ih e env s) λ v s₁. more_arguments es env s₁ _ _ λ vs s₂. h (v ∷ vs) s₂

    more_invoke : (i : ℕ) (g : Fun) (vs : List Value) (s : State) → More k j (invoke fs go i g vs s) (invoke fs go i g vs (plus k j s))
    unfolding invoke
    more_invoke i putchar vs s = more_want _ _ _ λ v. more_want _ _ _ λ z. more_put i z s
    more_invoke i (defined ps e) vs s = more_enter ps vs empty _ _ λ env. ih e env s

    more_passes : (n m : ℕ) (c e : Exp) (env : Env) (s : State) → m ≡ n + k
        → More k j (passes fs go n c e env s) (passes fs go m c e env (plus k j s))
    unfolding passes
    more_passes zero zero c e env s h = more_stop
    more_passes zero (suc m) c e env s h = more_50 (omega arith)
    more_passes (suc n) zero c e env s h = absurd (omega arith)
    more_passes (suc n) (suc m) c e env s h =
        more_then _ _ (ih c env s) λ v s₁.
        more_want _ _ _ λ b.
        more_choose b _ _ _ _
        (more_then _ _ (ih e env s₁) λ w s₂. more_want _ _ _ (λ _. more_passes n m c e env s₂ (omega arith)))
        more_value

    more_turns : (n m : ℕ) (x : Name) (through : Bool) (to by z : ℤ) (e : Exp) (env : Env) (s : State) → m ≡ n + k
        → More k j (turns fs go n x through to by z e env s) (turns fs go m x through to by z e env (plus k j s))
    unfolding turns
    more_turns zero zero x through to by z e env s h = more_choose _ _ _ _ _ more_stop more_value
    more_turns zero (suc m) x through to by z e env s h = more_choose _ _ _ _ _ (more_50 (omega arith)) more_value
    more_turns (suc n) zero x through to by z e env s h = absurd (omega arith)
    more_turns (suc n) (suc m) x through to by z e env s h =
        more_choose _ _ _ _ _
        (more_then _ _ (ih e _ s) λ v s₁.
        more_want _ _ _ λ _. more_choose _ _ _ _ _ (more_turns n m x through to by _ e env s₁ (omega arith)) more_value)
        more_value

    more_step : (e : Exp) (env : Env) (s : State) → More k j (step fs go e env s) (step fs go e env (plus k j s))
    unfolding step
    more_step (name i x) env s = more_want _ _ _ λ v. more_value
    more_step (literal i l) env s = more_value
    more_step (unary i o e) env s = more_then _ _ (ih e env s) λ v s₁. more_unary i o v s₁
    more_step (binary i o e f) env s =
        more_then _ _ (ih e env s) λ v s₁.
        more_choose _ _ _ _ _ more_value
        (more_then _ _ (ih f env s₁) λ w s₂. more_binary i o v w s₂)
    more_step (follow i e f) env s = more_then _ _ (ih e env s) λ v s₁. more_want _ _ _ (λ _. ih f env s₁)
    more_step (group i e) env s = ih e env s
    more_step (block i e) env s = more_then _ _ (ih e env s) λ v s₁. more_value
    more_step (call i f es) env s = more_arguments es env s _ _ λ vs s₁. more_want _ _ _ λ g. more_invoke i g vs s₁
    more_step (bind i x e f) env s = more_then _ _ (ih e env s) λ v s₁. ih f (push x v env) s₁
    more_step (branch i c e f) env s =
        more_then _ _ (ih c env s) λ v s₁. more_want _ _ _ λ b. more_choose b _ _ _ _ (ih e env s₁) (ih f env s₁)
    more_step (loop i c e) env s = more_passes s.units (s.units + k) c e env s refl
    more_step (counted i x through es e) env s =
        more_arguments es env s _ _ λ vs s₁.
        more_bounds vs _ _ λ from to by.
        more_choose _ _ _ _ _ more_stop (more_turns s₁.units (s₁.units + k) x through to by from e env s₁ refl)

  pub more_eval : (fs : Scope Fun) (d : ℕ) (e : Exp) (env : Env) (s : State) → More k j (eval fs d e env s) (eval fs d e env (plus k j s))
  unfolding eval
  more_eval fs zero e env s = more_begin _ s _ _ λ s₁. more_stop
  more_eval fs (suc d) e env s = more_begin _ s _ _ λ s₁. more_step fs (eval fs d) (more_eval fs d) e env s₁

  pub more_run : (p : Program) (allowance room : ℕ) → More k j (run p allowance room) (run p (allowance + k) (room + j))
  unfolding run
  more_run p allowance room = more_eval _ ACTIVE p.main empty (start allowance room)

abbrev raise : ℕ → ℕ → Outcome → Outcome
raise k j (value v s) = value v (plus k j s)
raise k j (stop n i s) = stop n i (plus k j s)
raise k j stuck = stuck

abbrev NotValue : Outcome → Type 0
NotValue (value v s) = ⊥
NotValue (stop n i s) = Unit {0}
NotValue stuck = ⊥

-- a value, or a stop that is for want of nothing, is the same with more
value_more : {k j : ℕ} {o p : Outcome} {v : Value} {s : State} → More k j o p → o ≡ value v s → p ≡ value v (plus k j s)
value_more {k} {j} (more_value {v = v} {s = s}) e = ap (raise k j) e
value_more {k} {j} (more_stop {w} {i} {s}) e = ap (raise k j) e
value_more (more_50 h) e = absurd (subst NotValue e tt)
value_more (more_57 h) e = absurd (subst NotValue e tt)
value_more {k} {j} more_stuck e = ap (raise k j) e

stop_more : {k j : ℕ} {o p : Outcome} {w : Stop} {i : ℕ} {s : State} → More k j o p → o ≡ stop w i s → (w ≡ no_unit → 0 < k → ⊥)
    → (w ≡ output_full → 0 < j → ⊥) → p ≡ stop w i (plus k j s)
stop_more {k} {j} (more_value {v = v} {s = s}) e h f = ap (raise k j) e
stop_more {k} {j} more_stop e h f = ap (raise k j) e
stop_more {w = w} (more_50 {i} {s} x) e h f = absurd (h (cc) x)
stop_more {w = w} (more_57 {i} {s} x) e h f = absurd (f (cc) x)
stop_more {k} {j} more_stuck e h f = ap (raise k j) e

no_more : (n : ℕ) → n + 0 ≡ n
no_more n = omega arith

-- ---- a larger allowance

-- k units more left
abbrev pub with_more : ℕ → State → State
with_more k s = record { units = s.units + k; births = s.births; room = s.room; cells = s.cells; printed = s.printed }

-- a state by its room
abbrev with_room : State → ℕ → State
with_room s r = record { units = s.units; births = s.births; room = r; cells = s.cells; printed = s.printed }

pub same_value : (p : Program) (allowance room k : ℕ) (v : Value) (s : State)
    → run p allowance room ≡ value v s → run p (allowance + k) room ≡ value v (with_more k s)
same_value p allowance room k v s e =
    let x = value_more (more_run k 0 p allowance room) e in
    subst (λ (m : ℕ). run p (allowance + k) m ≡ value v (with_more k s)) (no_more room)
    (x ∙ ap (λ (r : ℕ). value v (with_room (with_more k s) r)) (no_more s.room))

pub same_stop : (p : Program) (allowance room k : ℕ) (w : Stop) (i : ℕ) (s : State)
    → run p allowance room ≡ stop w i s → (w ≡ no_unit → ⊥) → run p (allowance + k) room ≡ stop w i (with_more k s)
same_stop p allowance room k w i s e h =
    let x = stop_more (more_run k 0 p allowance room) e (λ f l. h f) (λ f l. omega arith) in
    subst (λ (m : ℕ). run p (allowance + k) m ≡ stop w i (with_more k s)) (no_more room)
    (x ∙ ap (λ (r : ℕ). stop w i (with_room (with_more k s) r)) (no_more s.room))

-- ---- a longer output

-- j bytes more free
abbrev pub longer : ℕ → State → State
longer j s = record { units = s.units; births = s.births; room = s.room + j; cells = s.cells; printed = s.printed }

pub value_longer : (p : Program) (allowance room j : ℕ) (v : Value) (s : State)
    → run p allowance room ≡ value v s → run p allowance (room + j) ≡ value v (longer j s)
value_longer p allowance room j v s e =
    let x = value_more (more_run 0 j p allowance room) e in
    subst (λ (m : ℕ). run p m (room + j) ≡ value v (longer j s)) (no_more allowance)
    (x ∙ ap (λ (u : ℕ). value v (with_units u (longer j s))) (no_more s.units))

pub stop_longer : (p : Program) (allowance room j : ℕ) (w : Stop) (i : ℕ) (s : State)
    → run p allowance room ≡ stop w i s → (w ≡ output_full → ⊥) → run p allowance (room + j) ≡ stop w i (longer j s)
stop_longer p allowance room j w i s e h =
    let x = stop_more (more_run 0 j p allowance room) e (λ f l. omega arith) (λ f l. h f) in
    subst (λ (m : ℕ). run p m (room + j) ≡ stop w i (longer j s)) (no_more allowance)
    (x ∙ ap (λ (u : ℕ). stop w i (with_units u (longer j s))) (no_more s.units))
