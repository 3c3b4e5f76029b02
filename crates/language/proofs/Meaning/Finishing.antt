-- A tree without endless nodes, begun with the units that it costs, uses no more than those, and does not end for want of one.
use mathlib.Core.Path.{◌≡◌, refl, sym}
use mathlib.Core.Bool.{Bool, true, false}
use mathlib.Core.List.{List, [], ◌∷◌}
use mathlib.Core.Option.{Option, none, some}
use Prim.Native.Nat.{ℕ, zero, suc, ◌+◌, ◌≤◌, max}
use native.Mathlib.Omega.{arith}
use lib.IntN.{ℤ, pos, negsuc}
use lib.Ieee.{Float}
use Rattle.language.specs.Trees.{Name, Unary, minus, not, fetch, new, Binary, add, sub, mul, div, less, equal, and}
use Rattle.language.specs.Trees.{or, assign, Exp, name, literal, unary, binary, follow, group, block, call, bind}
use Rattle.language.specs.Trees.{branch, loop, Exps, last, more, own, Param, Scope, empty, push, nearest, counted}
use Rattle.language.specs.State.{Stop, no_unit, too_deep, out_of_range, zero_divisor, cell_freed, cells_full, not_a_byte, output_full, Value, State}
use Rattle.language.specs.State.{with_units, with_byte, Outcome, value, stop, stuck, then, choose, when_some, want, alike, zero_step}
use Rattle.language.specs.Meaning.{Env, charge, begin, fit, create, apply_unary, apply_binary, emit, put}
use Rattle.language.specs.Meaning.{Fun, putchar, defined, enter, arguments, invoke, step, eval, quotient}
use Rattle.language.specs.Profile.{or_else, endless, any_endless, or_zero, cost, all_cost}
use Rattle.language.proofs.Meaning.CellTypes.{none_some}

-- ---- how a node ends

-- any stop but 50
abbrev pub Other : Stop → Type 0
Other no_unit = ⊥
Other too_deep = Unit {0}
Other out_of_range = Unit {0}
Other zero_divisor = Unit {0}
Other cell_freed = Unit {0}
Other cells_full = Unit {0}
Other not_a_byte = Unit {0}
Other output_full = Unit {0}
Other zero_step = Unit {0}

-- from u units no more than n were used
pub record Used (n u : ℕ) (s : State) : Type 0 where
  pub most : u ≤ s.units + n

pub data Within (n u : ℕ) : Outcome → Type 0 where
  in_value : {v : Value} {s : State} → Used n u s → Within n u (value v s)
  in_stop : {w : Stop} {i : ℕ} {s : State} → Other w → Used n u s → Within n u (stop w i s)
  in_stuck : Within n u stuck

wider : {m n u : ℕ} {o : Outcome} → m ≤ n → Within m u o → Within n u o
wider a (in_value {s = s} h) = in_value {s = s} record { most = omega (arith, h.most) }
wider a (in_stop {s = s} w h) = in_stop {s = s} w record { most = omega (arith, h.most) }
wider a in_stuck = in_stuck

-- and the unit that it begins with
begun : (n : ℕ) {k u : ℕ} {o : Outcome} → 1 + n ≤ k → Within n u o → Within k (suc u) o
begun n a (in_value {s = s} h) = in_value {s = s} record { most = omega (arith, h.most) }
begun n a (in_stop {s = s} w h) = in_stop {s = s} w record { most = omega (arith, h.most) }
begun n a in_stuck = in_stuck

later : (m n : ℕ) {k u u' : ℕ} {o : Outcome} → m + n ≤ k → u ≤ u' + m → Within n u' o → Within k u o
later m n a b (in_value {s = s} h) = in_value {s = s} record { most = omega (arith, h.most) }
later m n a b (in_stop {s = s} w h) = in_stop {s = s} w record { most = omega (arith, h.most) }
later m n a b in_stuck = in_stuck

in_then : {k u : ℕ} {o : Outcome} (m n : ℕ) (f : Value → State → Outcome) → m + n ≤ k → Within m u o
    → ((v : Value) (s : State) → u ≤ s.units + m → Within n s.units (f v s)) → Within k u (then o f)
unfolding then
in_then m n f a (in_value {v} {s} h) g = later m n a h.most (g v s h.most)
in_then m n f a (in_stop {s = s} w h) g = in_stop {s = s} w record { most = omega (arith, h.most) }
in_then m n f a in_stuck g = in_stuck

module _ {n u : ℕ} where
  in_choose : (b : Bool) (x y : Unit {0} → Outcome) → Within n u (x tt) → Within n u (y tt) → Within n u (choose b x y)
  unfolding choose
  in_choose true x y f g = f
  in_choose false x y f g = g

  in_when : {A : Type 0} (o : Option A) (f : A → Outcome) (x : Unit {0} → Outcome) → ((a : A) → o ≡ some a → Within n u (f a))
      → Within n u (x tt) → Within n u (when_some o f x)
  unfolding when_some
  in_when none f x h p = p
  in_when (some a) f x h p = h a refl

  in_want : {A : Type 0} (o : Option A) (f : A → Outcome) → ((a : A) → Within n u (f a)) → Within n u (want o f)
  in_want o f h = in_when o f _ (λ a _. h a) in_stuck

  in_alike : (v w : Value) (f : ℤ → ℤ → Outcome) (g : Float → Float → Outcome) → ((x y : ℤ) → Within n u (f x y))
      → ((x y : Float) → Within n u (g x y)) → Within n u (alike v w f g)
  unfolding alike
  in_alike v w f g a b = in_when _ _ _ (λ x _. in_want _ _ λ y. a x y) (in_want _ _ λ x. in_want _ _ λ y. b x y)

  in_enter : (ps : List Param) (vs : List Value) (env : Env) (f : Env → Outcome) → ((env : Env) → Within n u (f env)) → Within n u (enter ps vs env f)
  unfolding enter
  in_enter [] [] env f h = h env
  in_enter [] (v ∷ vs) env f h = in_stuck
  in_enter (p ∷ ps) [] env f h = in_stuck
  in_enter (p ∷ ps) (v ∷ vs) env f h = in_enter ps vs (push p.called v env) f h

-- ---- operators use none

module _ (n i : ℕ) where
  here : {v : Value} (s : State) → Within n s.units (value v s)
  here s = in_value {s = s} record { most = omega arith }

  halt : {w : Stop} (s : State) → Other w → Within n s.units (stop w i s)
  halt s w = in_stop {s = s} w record { most = omega arith }

  same_units : {v : Value} (s t : State) → s.units ≡ t.units → Within n s.units (value v t)
  same_units s t e = in_value {s = t} record { most = omega arith }

  in_fit : (z : ℤ) (s : State) → Within n s.units (fit i z s)
  unfolding fit
  in_fit z s = in_choose _ _ _ (here s) (halt s tt)

  in_unary : (o : Unary) (v : Value) (s : State) → Within n s.units (apply_unary i o v s)
  unfolding apply_unary create
  in_unary minus v s = in_want _ _ λ _. in_fit _ s
  in_unary not v s = in_want _ _ λ _. here s
  in_unary fetch v s = in_want _ _ λ _. in_when _ _ _ (λ _ _. here s) (halt s tt)
  in_unary new v s = in_choose _ _ _ (in_value record { most = omega arith }) (halt s tt)

  in_binary : (o : Binary) (v x : Value) (s : State) → Within n s.units (apply_binary i o v x s)
  unfolding apply_binary quotient
  in_binary add v x s = in_alike _ _ _ _ (λ _ _. in_fit _ s) λ _ _. here s
  in_binary sub v x s = in_alike _ _ _ _ (λ _ _. in_fit _ s) λ _ _. here s
  in_binary mul v x s = in_alike _ _ _ _ (λ _ _. in_fit _ s) λ _ _. here s
  in_binary div v x s = in_alike _ _ _ _ (λ _ _. in_choose _ _ _ (halt s tt) (in_fit _ s)) λ _ _. here s
  in_binary less v x s = in_alike _ _ _ _ (λ _ _. here s) λ _ _. here s
  in_binary equal v x s = in_want _ _ λ _. in_want _ _ λ _. here s
  in_binary and v x s = in_want _ _ λ _. in_want _ _ λ _. here s
  in_binary or v x s = in_want _ _ λ _. in_want _ _ λ _. here s
  in_binary assign v x s = in_want _ _ λ _. in_when _ _ _ (λ _ _. in_value record { most = omega arith }) (halt s tt)

  in_emit : (r b : ℕ) (s : State) → Within n s.units (emit r i b s)
  unfolding emit
  in_emit zero b s = halt s tt
  in_emit (suc r) b s = same_units s (with_byte b r s) refl

  in_put : (z : ℤ) (s : State) → Within n s.units (put i z s)
  unfolding put
  in_put (pos b) s = in_choose _ _ _ (in_emit s.room b s) (halt s tt)
  in_put (negsuc b) s = halt s tt

-- ---- no endless node in any part

pub left_none : (x y : Option ℕ) → or_else x y ≡ none → x ≡ none
unfolding or_else
left_none none y e = refl
left_none (some i) y e = e

pub right_none : (x y : Option ℕ) → or_else x y ≡ none → y ≡ none
unfolding or_else
right_none none y e = e
right_none (some i) y e = absurd (none_some (sym e))

-- ---- what a node does, once begun

abbrev pub nobody : Name → Bool
nobody f = false

-- the body of a function has no endless node and costs no more than c
abbrev pub Affordable : Scope ℕ → Fun → ℕ → Type 0
Affordable costs putchar c = Unit {0}
Affordable costs (defined ps e) c = (endless nobody e ≡ none) × (cost costs e ≤ c)

abbrev pub Affords : Scope ℕ → Scope Fun → Type 0
Affords costs fs = (f : Name) (g : Fun) → nearest f fs ≡ some g → Affordable costs g (or_zero (nearest f costs))

record Finishes (costs : Scope ℕ) (go : Exp → Env → State → Outcome) : Type 0 where
  at : (e : Exp) (env : Env) (s : State) → endless nobody e ≡ none → cost costs e ≤ s.units → Within (cost costs e) s.units (go e env s)

max_left : (m n : ℕ) → m ≤ max m n
max_left m n = omega arith

max_right : (m n : ℕ) → n ≤ max m n
max_right m n = omega arith

module _ (costs : Scope ℕ) (fs : Scope Fun) (afford : Affords costs fs) (go : Exp → Env → State → Outcome) (all : Finishes costs go) where
  abbrev price : Exp → ℕ
  price e = cost costs e

  arguments_in : (n : ℕ) (es : Exps) (env : Env) (s : State) (f : List Value → State → Outcome) → any_endless nobody es ≡ none
      → all_cost costs es + n ≤ s.units → ((vs : List Value) (t : State) → n ≤ t.units → Within n t.units (f vs t))
      → Within (all_cost costs es + n) s.units (arguments fs go es env s f)
  unfolding arguments endless cost
  arguments_in n last env s f h k g = wider (omega arith) (g [] s (omega arith))
  arguments_in n (more e es) env s f h k g =
      in_then (price e) (all_cost costs es + n) _ (omega arith)
      (all.at e env s (left_none _ _ h) (omega arith)) λ v t q.
      arguments_in n es env t (λ vs t. f (v ∷ vs) t) (right_none _ _ h) (omega arith) λ vs t r. g (v ∷ vs) t r

  invoke_in : (i c : ℕ) (g : Fun) (vs : List Value) (s : State) → Affordable costs g c → c ≤ s.units → Within c s.units (invoke fs go i g vs s)
  unfolding invoke
  invoke_in i c putchar vs s h k = in_want _ _ λ v. in_want _ _ λ z. in_put c i z s
  invoke_in i c (defined ps e) vs s h k = in_enter ps vs empty _ λ env. wider h.1 (all.at e env s h.0 (omega (arith, h.1)))

  step_in : (e : Exp) (env : Env) (s : State) → endless nobody e ≡ none → price e ≤ suc s.units → Within (price e) (suc s.units) (step fs go e env s)
  unfolding step endless cost
  step_in (name i x) env s h k = begun 0 (omega arith) (in_want _ _ λ v. here 0 i s)
  step_in (literal i l) env s h k = begun 0 (omega arith) (here 0 i s)
  step_in (unary i o e) env s h k = begun (price e) (omega arith)
      (in_then (price e) 0 _ (omega arith) (all.at e env s h (omega arith)) λ v t q. in_unary 0 i o v t)
  step_in (binary i o e f) env s h k =
      begun (price e + price f) (omega arith) (in_then (price e) (price f) _ (omega arith) (all.at e env s (left_none _ _ h) (omega arith)) λ v t q.
      in_choose _ _ _ (here (price f) i t)
      (in_then (price f) 0 _ (omega arith) (all.at f env t (right_none _ _ h) (omega arith)) λ w t q. in_binary 0 i o v w t))
  step_in (follow i e f) env s h k =
      begun (price e + price f) (omega arith) (in_then (price e) (price f) _ (omega arith) (all.at e env s (left_none _ _ h) (omega arith)) λ v t q.
      in_want _ _ λ _. all.at f env t (right_none _ _ h) (omega arith))
  step_in (group i e) env s h k = begun (price e) (omega arith) (all.at e env s h (omega arith))
  step_in (block i e) env s h k =
      begun (price e) (omega arith) (in_then (price e) 0 _ (omega arith) (all.at e env s h (omega arith)) λ v t q. same_units 0 i t _ refl)
  step_in (call i f es) env s h k =
      let c = or_zero (nearest f costs) in
      begun (all_cost costs es + c) (omega arith) (arguments_in c es env s _ (left_none _ _ h) (omega arith) λ vs t q.
      in_when _ _ _ (λ g e. invoke_in i c g vs t (afford f g e) q) in_stuck)
  step_in (bind i x e f) env s h k =
      begun (price e + price f) (omega arith) (in_then (price e) (price f) _ (omega arith) (all.at e env s (left_none _ _ h) (omega arith)) λ v t q.
      all.at f (push x v env) t (right_none _ _ h) (omega arith))
  step_in (branch i c e f) env s h k =
      let r = right_none _ _ h in
      let a = max_left (price e) (price f) in
      let b = max_right (price e) (price f) in
      begun (price c + max (price e) (price f)) (omega arith)
      (in_then (price c) (max (price e) (price f)) _ (omega arith) (all.at c env s (left_none _ _ h) (omega arith)) λ v t q.
      in_want _ _ λ x.
      in_choose _ _ _ (wider a (all.at e env t (left_none _ _ r) (omega arith)))
      (wider b (all.at f env t (right_none _ _ r) (omega arith))))
  step_in (counted i x b es e) env s h k =
      absurd (none_some (sym (right_none (endless nobody e) (some i) (right_none (any_endless nobody es) _ h))))
  step_in (loop i c e) env s h k = absurd (none_some (sym (right_none (endless nobody e) (some i) (right_none (endless nobody c) _ h))))

-- ---- a node as a whole

cost_some : (costs : Scope ℕ) (e : Exp) → 1 ≤ cost costs e
unfolding cost
cost_some costs (name i x) = omega arith
cost_some costs (literal i l) = omega arith
cost_some costs (unary i o e) = omega arith
cost_some costs (binary i o e f) = omega arith
cost_some costs (follow i e f) = omega arith
cost_some costs (group i e) = omega arith
cost_some costs (block i e) = omega arith
cost_some costs (call i f es) = omega arith
cost_some costs (bind i x e f) = omega arith
cost_some costs (branch i c e f) = omega arith
cost_some costs (loop i c e) = omega arith
cost_some costs (counted i x b es e) = omega arith

in_charge : {n : ℕ} (u i : ℕ) (s : State) (k : State → Outcome) → 1 ≤ u
    → ((v : ℕ) → u ≡ suc v → Within n (suc v) (k (with_units v s))) → Within n u (charge u i s k)
unfolding charge
in_charge zero i s k h f = absurd (omega arith)
in_charge (suc v) i s k h f = f v refl

in_begin : {n : ℕ} (i : ℕ) (s : State) (k : State → Outcome) → 1 ≤ s.units
    → ((v : ℕ) → s.units ≡ suc v → Within n (suc v) (k (with_units v s))) → Within n s.units (begin i s k)
unfolding begin
in_begin i s k h f = in_charge s.units i s k h f

module _ (costs : Scope ℕ) (fs : Scope Fun) (afford : Affords costs fs) where
  finishes : (d : ℕ) → Finishes costs (eval fs d)
  unfolding eval
  finishes zero = record {
    at = λ e env s h k.
        in_begin _ s _ (omega (arith, cost_some costs e, k)) λ v q. deep (cost costs e) (own e) v s (cost_some costs e);
  }
    where
      deep : (n i v : ℕ) (s : State) → 1 ≤ n → Within n (suc v) (stop too_deep i (with_units v s))
      deep n i v s h = in_stop {s = with_units v s} tt record { most = omega arith }
  finishes (suc d) =
      let ih = finishes d in
      record {
        at = λ e env s h k.
            in_begin _ s _ (omega (arith, cost_some costs e, k)) λ v q.
            step_in costs fs afford (eval fs d) ih e env (with_units v s) h (omega (arith, k, q));
      }

  pub eval_in : (d : ℕ) (e : Exp) (env : Env) (s : State) → endless nobody e ≡ none → cost costs e ≤ s.units
      → Within (cost costs e) s.units (eval fs d e env s)
  eval_in d e env s h k = (finishes d).at e env s h k
