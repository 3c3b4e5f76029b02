-- A program without a float number means what it meant before there were floats, and no value in it is a float (R08.8).
use mathlib.Core.Path.{◌≡◌, refl}
use mathlib.Core.Bool.{Bool, true, false, cond}
use mathlib.Core.List.{List, [], ◌∷◌}
use mathlib.Core.Option.{Option, none, some}
use Prim.Native.Nat.{ℕ, zero, suc}
use lib.Dec.{eqb, leb}
use lib.IntN.{ℤ, pos, negsuc}
use lib.Ieee.{Float}
use Rattle.language.specs.Sizes.{ACTIVE}
use Rattle.language.specs.Tokens.{same}
use Rattle.language.specs.Trees.{Name, Literal, whole, truth, trivial, decimal, Unary, minus, not, fetch, new, Binary, add, sub, mul, div, less}
use Rattle.language.specs.Trees.{equal, and, or, assign, Exp, name, literal, unary, binary, follow, group, block, call, bind, branch, loop, counted}
use Rattle.language.specs.Trees.{Exps, last, more, Param, Def, Program, Scope, empty, push, nearest}
use Rattle.language.specs.State.{Value, number, float, flag, nothing, cell, as_int, Cells, no_cell, live, held}
use Rattle.language.specs.State.{store, keep, State, Stop, Outcome, value, stop, stuck}
use Rattle.language.specs.State.{then, choose, when_some, want, alike}
use Rattle.language.specs.Meaning.{Env, charge, begin, fit, create, apply_unary, quotient, apply_binary, emit}
use Rattle.language.specs.Meaning.{put, literal_value, Fun, putchar, defined, enter, arguments, invoke, passes, step, eval, functions, start, run}
use Rattle.language.proofs.Meaning.OldMeaning.{old_binary, old_literal, old_step, old_eval, old_run, BareLiteral, Bare, BareAll, BareDefs, BareProgram}

abbrev BareFun : Fun → Type 0
BareFun putchar = Unit {0}
BareFun (defined ps e) = Bare e

-- ---- values that are no floats

abbrev pub Plain : Value → Type 0
Plain (number z) = Unit {0}
Plain (float x) = ⊥
Plain (flag b) = Unit {0}
Plain nothing = Unit {0}
Plain (cell b) = Unit {0}

unfoldable pub PlainCells : Cells → Type 0
PlainCells no_cell = Unit {0}
PlainCells (live b v cs) = Plain v × PlainCells cs

-- what is bound, or found, has the property
unfoldable EachIn : {A : Type 0} → (A → Type 0) → Scope A → Type 0
EachIn P empty = Unit {0}
EachIn P (push x a r) = P a × EachIn P r

abbrev If : {A : Type 0} → (A → Type 0) → Option A → Type 0
If P none = Unit {0}
If P (some a) = P a

either_one : {X : Type 0} (Q : X → Type 0) (b : Bool) {x y : X} → Q x → Q y → Q (cond b x y)
either_one Q true h k = h
either_one Q false h k = k

found : {A : Type 0} (P : A → Type 0) (x : Name) (r : Scope A) → EachIn P r → If P (nearest x r)
unfolding nearest EachIn
found P x empty h = tt
found P x (push y a r) h = either_one (If P) (same x y) h.0 (found P x r h.1)

held_plain : (b : ℕ) (cs : Cells) → PlainCells cs → If Plain (held b cs)
unfolding held PlainCells
held_plain b no_cell h = tt
held_plain b (live c v cs) h = either_one (If Plain) (eqb b c) h.0 (held_plain b cs h.1)

store_plain : (b : ℕ) (w : Value) (cs : Cells) → Plain w → PlainCells cs → PlainCells (store b w cs)
unfolding store PlainCells
store_plain b w no_cell p h = tt
store_plain b w (live c v cs) p h = either_one PlainCells (eqb b c) (p, h.1) (h.0, store_plain b w cs p h.1)

keep_plain : (b : ℕ) (cs : Cells) → PlainCells cs → PlainCells (keep b cs)
unfolding keep PlainCells
keep_plain b no_cell h = tt
keep_plain b (live c v cs) h = either_one PlainCells (leb c b) (h.0, keep_plain b cs h.1) (keep_plain b cs h.1)

-- ---- one outcome, in which no value is a float

pub data Same : Outcome → Outcome → Type 0 where
  same_value : {v : Value} {s : State} → Plain v → PlainCells s.cells → Same (value v s) (value v s)
  same_stop : {w : Stop} {i : ℕ} {s : State} → Same (stop w i s) (stop w i s)
  same_stuck : Same stuck stuck

same_then : {o p : Outcome} (f g : Value → State → Outcome) → Same o p
    → ((v : Value) (s : State) → Plain v → PlainCells s.cells → Same (f v s) (g v s)) → Same (then o f) (then p g)
unfolding then
same_then f g (same_value {v} {s} p q) h = h v s p q
same_then f g same_stop h = same_stop
same_then f g same_stuck h = same_stuck

same_choose : (b : Bool) (x y x' y' : Unit {0} → Outcome) → Same (x tt) (x' tt) → Same (y tt) (y' tt) → Same (choose b x y) (choose b x' y')
unfolding choose
same_choose true x y x' y' f g = f
same_choose false x y x' y' f g = g

same_found : {A : Type 0} (P : A → Type 0) (o : Option A) (f g : A → Outcome) (x y : Unit {0} → Outcome) → If P o
    → ((a : A) → P a → Same (f a) (g a)) → Same (x tt) (y tt) → Same (when_some o f x) (when_some o g y)
unfolding when_some
same_found P none f g x y q h k = k
same_found P (some a) f g x y q h k = h a q

same_want : {A : Type 0} (o : Option A) (f g : A → Outcome) → ((a : A) → Same (f a) (g a)) → Same (want o f) (want o g)
unfolding when_some
same_want none f g h = same_stuck
same_want (some a) f g h = h a

same_charge : (n i : ℕ) (s : State) (f g : State → Outcome) → PlainCells s.cells
    → ((s : State) → PlainCells s.cells → Same (f s) (g s)) → Same (charge n i s f) (charge n i s g)
unfolding charge
same_charge zero i s f g q h = same_stop
same_charge (suc n) i s f g q h = h _ q

same_begin : (i : ℕ) (s : State) (f g : State → Outcome) → PlainCells s.cells
    → ((s : State) → PlainCells s.cells → Same (f s) (g s)) → Same (begin i s f) (begin i s g)
unfolding begin
same_begin i s f g q h = same_charge s.units i s f g q h

-- ---- operators

module _ (i : ℕ) (s : State) (q : PlainCells s.cells) where
  same_fit : (z : ℤ) → Same (fit i z s) (fit i z s)
  unfolding fit
  same_fit z = same_choose _ _ _ _ _ (same_value tt q) same_stop

  same_unary : (o : Unary) (v : Value) → Plain v → Same (apply_unary i o v s) (apply_unary i o v s)
  unfolding apply_unary create PlainCells
  same_unary minus v p = same_want _ _ _ λ x. same_fit _
  same_unary not v p = same_want _ _ _ λ b. same_value tt q
  same_unary fetch v p =
      same_want _ _ _ λ b. same_found Plain (held b s.cells) _ _ _ _ (held_plain b s.cells q) (λ w k. same_value k q) same_stop
  same_unary new v p = same_choose _ _ _ _ _ (same_value tt (p, q)) same_stop

  -- two ints or else nothing, where the left is no float
  same_alike : (v w : Value) (f : ℤ → ℤ → Outcome) (g : Float → Float → Outcome) → Plain v → ((x y : ℤ) → Same (f x y) (f x y))
      → Same (want (as_int v) λ x. want (as_int w) λ y. f x y) (alike v w f g)
  unfolding alike when_some
  same_alike (number x) w f g p h = same_want (as_int w) _ _ λ y. h x y
  same_alike (float x) w f g p h = absurd p
  same_alike (flag b) w f g p h = same_stuck
  same_alike nothing w f g p h = same_stuck
  same_alike (cell b) w f g p h = same_stuck

  same_binary : (o : Binary) (v w : Value) → Plain v → Plain w → Same (old_binary i o v w s) (apply_binary i o v w s)
  unfolding old_binary apply_binary quotient
  same_binary add v w p r = same_alike v w _ _ p λ x y. same_fit _
  same_binary sub v w p r = same_alike v w _ _ p λ x y. same_fit _
  same_binary mul v w p r = same_alike v w _ _ p λ x y. same_fit _
  same_binary div v w p r = same_alike v w _ _ p λ x y. same_choose _ _ _ _ _ same_stop (same_fit _)
  same_binary less v w p r = same_alike v w _ _ p λ x y. same_value tt q
  same_binary equal v w p r = same_want _ _ _ λ x. same_want _ _ _ λ y. same_value tt q
  same_binary and v w p r = same_want _ _ _ λ x. same_want _ _ _ λ y. same_value tt q
  same_binary or v w p r = same_want _ _ _ λ x. same_want _ _ _ λ y. same_value tt q
  same_binary assign v w p r =
      same_want _ _ _ λ b.
      same_found Plain (held b s.cells) _ _ _ _ (held_plain b s.cells q) (λ _ _. same_value tt (store_plain b w s.cells r q)) same_stop

  same_literal : (l : Literal) → BareLiteral l → Same (old_literal l s) (value (literal_value l) s)
  unfolding old_literal literal_value
  same_literal (whole n) b = same_value tt q
  same_literal (truth b) h = same_value tt q
  same_literal trivial b = same_value tt q
  same_literal (decimal x) b = absurd b

  same_emit : (r n : ℕ) → Same (emit r i n s) (emit r i n s)
  unfolding emit
  same_emit zero n = same_stop
  same_emit (suc r) n = same_value tt q

  same_put : (z : ℤ) → Same (put i z s) (put i z s)
  unfolding put
  same_put (pos n) = same_choose _ _ _ _ _ (same_emit s.room n) same_stop
  same_put (negsuc n) = same_stop

-- ---- nodes

unfoldable EachOf : List Value → Type 0
EachOf [] = Unit {0}
EachOf (v ∷ vs) = Plain v × EachOf vs

abbrev PlainEnv : Env → Type 0
PlainEnv env = EachIn Plain env

same_enter : (ps : List Param) (vs : List Value) (env : Env) (f g : Env → Outcome) → EachOf vs → PlainEnv env
    → ((env : Env) → PlainEnv env → Same (f env) (g env)) → Same (enter ps vs env f) (enter ps vs env g)
unfolding enter EachOf EachIn
same_enter [] [] env f g a b h = h env b
same_enter [] (v ∷ vs) env f g a b h = same_stuck
same_enter (p ∷ ps) [] env f g a b h = same_stuck
same_enter (p ∷ ps) (v ∷ vs) env f g a b h = same_enter ps vs (push p.called v env) f g a.1 (a.0, b) h

module _ (fs : Scope Fun) (bare : EachIn BareFun fs) (was go : Exp → Env → State → Outcome)
    (ih : (e : Exp) (env : Env) (s : State) → Bare e → PlainEnv env → PlainCells s.cells → Same (was e env s) (go e env s)) where
  same_arguments : (es : Exps) (env : Env) (s : State) (f g : List Value → State → Outcome) → BareAll es → PlainEnv env → PlainCells s.cells
      → ((vs : List Value) (s : State) → EachOf vs → PlainCells s.cells → Same (f vs s) (g vs s))
      → Same (arguments fs was es env s f) (arguments fs go es env s g)
  unfolding arguments BareAll EachOf
  same_arguments last env s f g b p q h = h [] s tt q
  same_arguments (more e es) env s f g b p q h =
      same_then _ _ (ih e env s b.0 p q) λ v s₁ r q₁. same_arguments es env s₁ _ _ b.1 p q₁ λ vs s₂ rs q₂. h (v ∷ vs) s₂ (r, rs) q₂

  same_invoke : (i : ℕ) (g : Fun) (vs : List Value) (s : State) → BareFun g → EachOf vs → PlainCells s.cells
      → Same (invoke fs was i g vs s) (invoke fs go i g vs s)
  unfolding invoke EachIn
  same_invoke i putchar vs s b r q = same_want _ _ _ λ v. same_want _ _ _ λ z. same_put i s q z
  same_invoke i (defined ps e) vs s b r q = same_enter ps vs empty _ _ r tt λ env p. ih e env s b p q

  same_passes : (n : ℕ) (c e : Exp) (env : Env) (s : State) → Bare c → Bare e → PlainEnv env → PlainCells s.cells
      → Same (passes fs was n c e env s) (passes fs go n c e env s)
  unfolding passes
  same_passes zero c e env s a b p q = same_stop
  same_passes (suc n) c e env s a b p q =
      same_then _ _ (ih c env s a p q) λ v s₁ r q₁.
      same_want _ _ _ λ t.
      same_choose t _ _ _ _
      (same_then _ _ (ih e env s₁ b p q₁) λ w s₂ k q₂. same_want _ _ _ λ _. same_passes n c e env s₂ a b p q₂)
      (same_value tt q₁)

  same_step : (e : Exp) (env : Env) (s : State) → Bare e → PlainEnv env → PlainCells s.cells → Same (old_step fs was e env s) (step fs go e env s)
  unfolding old_step step Bare EachIn
  same_step (name i x) env s b p q = same_found Plain (nearest x env) _ _ _ _ (found Plain x env p) (λ v r. same_value r q) same_stuck
  same_step (literal i l) env s b p q = same_literal i s q l b
  same_step (unary i o e) env s b p q = same_then _ _ (ih e env s b p q) λ v s₁ r q₁. same_unary i s₁ q₁ o v r
  same_step (binary i o e f) env s b p q =
      same_then _ _ (ih e env s b.0 p q) λ v s₁ r q₁.
      same_choose _ _ _ _ _ (same_value r q₁)
      (same_then _ _ (ih f env s₁ b.1 p q₁) λ w s₂ k q₂. same_binary i s₂ q₂ o v w r k)
  same_step (follow i e f) env s b p q = same_then _ _ (ih e env s b.0 p q) λ v s₁ r q₁. same_want _ _ _ λ _. ih f env s₁ b.1 p q₁
  same_step (group i e) env s b p q = ih e env s b p q
  same_step (block i e) env s b p q =
      same_then _ _ (ih e env s b p q) λ v s₁ r q₁. same_value r (keep_plain s.births s₁.cells q₁)
  same_step (call i f es) env s b p q =
      same_arguments es env s _ _ b p q λ vs s₁ r q₁.
      same_found BareFun (nearest f fs) _ _ _ _ (found BareFun f fs bare) (λ g k. same_invoke i g vs s₁ k r q₁) same_stuck
  same_step (bind i x e f) env s b p q =
      same_then _ _ (ih e env s b.0 p q) λ v s₁ r q₁. ih f (push x v env) s₁ b.1 (r, p) q₁
  same_step (branch i c e f) env s b p q =
      same_then _ _ (ih c env s b.0 p q) λ v s₁ r q₁.
      same_want _ _ _ λ t. same_choose t _ _ _ _ (ih e env s₁ b.1 p q₁) (ih f env s₁ b.2 p q₁)
  same_step (loop i c e) env s b p q = same_passes s.units c e env s b.0 b.1 p q
  same_step (counted i x m es e) env s b p q = absurd b

same_eval : (fs : Scope Fun) → EachIn BareFun fs → (d : ℕ) (e : Exp) (env : Env) (s : State) → Bare e → PlainEnv env → PlainCells s.cells
    → Same (old_eval fs d e env s) (eval fs d e env s)
unfolding old_eval eval
same_eval fs bare zero e env s b p q = same_begin _ s _ _ q λ s₁ q₁. same_stop
same_eval fs bare (suc d) e env s b p q =
    same_begin _ s _ _ q λ s₁ q₁. same_step fs bare (old_eval fs d) (eval fs d) (same_eval fs bare d) e env s₁ b p q₁

bare_functions : (ds : List Def) (fs : Scope Fun) → BareDefs ds → EachIn BareFun fs → EachIn BareFun (functions ds fs)
unfolding functions BareDefs EachIn
bare_functions [] fs b h = h
bare_functions (d ∷ ds) fs b h = bare_functions ds _ b.1 (b.0, h)

-- A program without a float number runs as it ran.
pub same_run : (p : Program) (allowance room : ℕ) → BareProgram p → Same (old_run p allowance room) (run p allowance room)
unfolding old_run run EachIn PlainCells
same_run p allowance room b =
    same_eval _ (bare_functions p.defs _ b.defs (tt, tt)) ACTIVE p.main empty (start allowance room) b.main tt tt

pub same_outcome : {o p : Outcome} → Same o p → o ≡ p
same_outcome (same_value p q) = refl
same_outcome same_stop = refl
same_outcome same_stuck = refl
