-- What every way of changing a state keeps, every run keeps; and what holds of the own tokens of all nodes holds of the token
-- that a stop is told at.
use mathlib.Core.Path.{◌≡◌, refl, subst}
use mathlib.Core.Bool.{Bool, true, false, cond}
use mathlib.Core.List.{List, [], ◌∷◌}
use mathlib.Core.Option.{Option, none, some}
use Prim.Native.Nat.{ℕ, zero, suc, ◌≤◌, ◌<◌}
use lib.IntN.{ℤ, pos, negsuc}
use lib.Ieee.{Float}
use borrow.Author.Tests.{leb-true, ltb-true}
use Rattle.language.specs.Sizes.{ACTIVE, CELLS, BYTE}
use Rattle.language.specs.Tokens.{same}
use Rattle.language.specs.Trees.{Name, Unary, minus, not, fetch, new, Binary, add, sub, mul, div, less, equal, and, or}
use Rattle.language.specs.Trees.{assign, Exp, name, literal, unary, binary, follow, group, block, call, bind, branch}
use Rattle.language.specs.Trees.{loop, Exps, last, more, own, Param, Def, Program, Scope, empty, push, nearest, counted}
use Rattle.language.specs.State.{Stop, Value, count, store, keep, State, with_units, with_cells, with_birth}
use Rattle.language.specs.State.{with_byte, Outcome, value, stop, stuck, then, choose, when_some, want, alike}
use Rattle.language.specs.Meaning.{Env, charge, begin, fit, create, apply_unary, quotient, apply_binary, emit, put, Fun, putchar}
use Rattle.language.specs.Meaning.{defined, enter, arguments, invoke, passes, step, eval, functions, start, run, with_bounds, turns}
use Rattle.language.proofs.Grammar.OwnTokens.{Own, owns, all_owns, def_owns, program_owns, All, first, rest, front, back, everywhere, main_owned, own_of}
use Rattle.language.proofs.Meaning.CellTypes.{none_some, some_one}

-- I holds of the state that an outcome has, Q of the token that a stop is told at
pub data Keeps (I : State → Type 0) (Q : ℕ → Type 0) : Outcome → Type 0 where
  keeps_value : {v : Value} {s : State} → I s → Keeps I Q (value v s)
  keeps_stop : {w : Stop} {i : ℕ} {s : State} → Q i → I s → Keeps I Q (stop w i s)
  keeps_stuck : Keeps I Q stuck

-- the five ways in which a state changes
pub record Closed (I : State → Type 0) : Type 0 where
  pub use_unit : (s : State) (u : ℕ) → s.units ≡ suc u → I s → I (with_units u s)
  pub bear : (s : State) (v : Value) → count s.cells < CELLS → I s → I (with_birth v s)
  pub write : (s : State) (b : ℕ) (v : Value) → I s → I (with_cells (store b v s.cells) s)
  pub free : (s : State) (b : ℕ) → I s → I (with_cells (keep b s.cells) s)
  pub print : (s : State) (r n : ℕ) → s.room ≡ suc r → n ≤ BYTE → I s → I (with_byte n r s)

module _ (I : State → Type 0) (Q : ℕ → Type 0) where
  -- Q holds of the own tokens of e, and of those of the body of g
  abbrev pub Owned : List Own → Type 0
  Owned os = All (λ o. Q o.at) os

  abbrev Body : Fun → Type 0
  Body putchar = Unit {0}
  Body (defined ps e) = Owned (owns e)

  abbrev pub Bodies : Scope Fun → Type 0
  Bodies fs = (f : Name) (g : Fun) → nearest f fs ≡ some g → Body g

  -- ---- each way of putting outcomes together

  keeps_then : {o : Outcome} (f : Value → State → Outcome) → Keeps I Q o → ((v : Value) (s : State) → I s → Keeps I Q (f v s))
      → Keeps I Q (then o f)
  unfolding then
  keeps_then f (keeps_value {v} {s} h) g = g v s h
  keeps_then f (keeps_stop q h) g = keeps_stop q h
  keeps_then f keeps_stuck g = keeps_stuck

  keeps_choose : (b : Bool) (x y : Unit {0} → Outcome) → (b ≡ true → Keeps I Q (x tt)) → Keeps I Q (y tt) → Keeps I Q (choose b x y)
  unfolding choose
  keeps_choose true x y f g = f refl
  keeps_choose false x y f g = g

  keeps_when : {A : Type 0} (o : Option A) (f : A → Outcome) (x : Unit {0} → Outcome) → ((a : A) → o ≡ some a → Keeps I Q (f a))
      → Keeps I Q (x tt) → Keeps I Q (when_some o f x)
  unfolding when_some
  keeps_when none f x h p = p
  keeps_when (some a) f x h p = h a refl

  keeps_want : {A : Type 0} (o : Option A) (f : A → Outcome) → ((a : A) → Keeps I Q (f a)) → Keeps I Q (want o f)
  keeps_want o f h = keeps_when o f _ (λ a _. h a) keeps_stuck

  keeps_alike : (v w : Value) (f : ℤ → ℤ → Outcome) (g : Float → Float → Outcome) → ((x y : ℤ) → Keeps I Q (f x y))
      → ((x y : Float) → Keeps I Q (g x y)) → Keeps I Q (alike v w f g)
  unfolding alike
  keeps_alike v w f g a b =
      keeps_when _ _ _ (λ x _. keeps_want _ _ λ y. a x y) (keeps_want _ _ λ x. keeps_want _ _ λ y. b x y)

  keeps_bounds : (vs : List Value) (f : ℤ → ℤ → ℤ → Outcome) → ((x y z : ℤ) → Keeps I Q (f x y z)) → Keeps I Q (with_bounds vs f)
  unfolding with_bounds
  keeps_bounds [] f h = keeps_stuck
  keeps_bounds (v ∷ []) f h = keeps_stuck
  keeps_bounds (v ∷ w ∷ []) f h = keeps_want _ _ λ x. keeps_want _ _ λ y. h x y _
  keeps_bounds (v ∷ w ∷ t ∷ []) f h = keeps_want _ _ λ x. keeps_want _ _ λ y. keeps_want _ _ λ z. h x y z
  keeps_bounds (v ∷ w ∷ t ∷ r ∷ vs) f h = keeps_stuck

  keeps_enter : (ps : List Param) (vs : List Value) (env : Env) (f : Env → Outcome) → ((env : Env) → Keeps I Q (f env))
      → Keeps I Q (enter ps vs env f)
  unfolding enter
  keeps_enter [] [] env f h = h env
  keeps_enter [] (v ∷ vs) env f h = keeps_stuck
  keeps_enter (p ∷ ps) [] env f h = keeps_stuck
  keeps_enter (p ∷ ps) (v ∷ vs) env f h = keeps_enter ps vs (push p.called v env) f h

  module _ (c : Closed I) where
    -- ---- what a node does with its operands, where Q holds of its token

    module _ (i : ℕ) (q : Q i) where
      keeps_fit : (z : ℤ) (s : State) → I s → Keeps I Q (fit i z s)
      unfolding fit
      keeps_fit z s h = keeps_choose _ _ _ (λ _. keeps_value h) (keeps_stop q h)

      keeps_unary : (o : Unary) (v : Value) (s : State) → I s → Keeps I Q (apply_unary i o v s)
      unfolding apply_unary create
      keeps_unary minus v s h = keeps_want _ _ λ _. keeps_fit _ s h
      keeps_unary not v s h = keeps_want _ _ λ _. keeps_value h
      keeps_unary fetch v s h = keeps_want _ _ λ _. keeps_when _ _ _ (λ _ _. keeps_value h) (keeps_stop q h)
      keeps_unary new v s h =
          keeps_choose _ _ _ (λ e. keeps_value (c.bear s v (ltb-true (count s.cells) CELLS e) h)) (keeps_stop q h)

      keeps_binary : (o : Binary) (v x : Value) (s : State) → I s → Keeps I Q (apply_binary i o v x s)
      unfolding apply_binary quotient
      keeps_binary add v x s h = keeps_alike _ _ _ _ (λ _ _. keeps_fit _ s h) λ _ _. keeps_value h
      keeps_binary sub v x s h = keeps_alike _ _ _ _ (λ _ _. keeps_fit _ s h) λ _ _. keeps_value h
      keeps_binary mul v x s h = keeps_alike _ _ _ _ (λ _ _. keeps_fit _ s h) λ _ _. keeps_value h
      keeps_binary div v x s h =
          keeps_alike _ _ _ _ (λ _ _. keeps_choose _ _ _ (λ _. keeps_stop q h) (keeps_fit _ s h)) λ _ _. keeps_value h
      keeps_binary less v x s h = keeps_alike _ _ _ _ (λ _ _. keeps_value h) λ _ _. keeps_value h
      keeps_binary equal v x s h = keeps_want _ _ λ _. keeps_want _ _ λ _. keeps_value h
      keeps_binary and v x s h = keeps_want _ _ λ _. keeps_want _ _ λ _. keeps_value h
      keeps_binary or v x s h = keeps_want _ _ λ _. keeps_want _ _ λ _. keeps_value h
      keeps_binary assign v x s h = keeps_want _ _ λ b. keeps_when _ _ _ (λ _ _. keeps_value (c.write s b x h)) (keeps_stop q h)

      keeps_emit : (r n : ℕ) (s : State) → s.room ≡ r → n ≤ BYTE → I s → Keeps I Q (emit r i n s)
      unfolding emit
      keeps_emit zero n s e k h = keeps_stop q h
      keeps_emit (suc r) n s e k h = keeps_value (c.print s r n e k h)

      keeps_put : (z : ℤ) (s : State) → I s → Keeps I Q (put i z s)
      unfolding put
      keeps_put (pos n) s h = keeps_choose _ _ _ (λ e. keeps_emit s.room n s refl (leb-true n BYTE e) h) (keeps_stop q h)
      keeps_put (negsuc n) s h = keeps_stop q h

      keeps_charge : (n : ℕ) (s : State) (f : State → Outcome) → s.units ≡ n → I s → ((s : State) → I s → Keeps I Q (f s))
          → Keeps I Q (charge n i s f)
      unfolding charge
      keeps_charge zero s f e h g = keeps_stop q h
      keeps_charge (suc n) s f e h g = g _ (c.use_unit s n e h)

    -- ---- nodes

    abbrev Held : (Exp → Env → State → Outcome) → Type 0
    Held go = (e : Exp) (env : Env) (s : State) → Owned (owns e) → I s → Keeps I Q (go e env s)

    module _ (fs : Scope Fun) (bodies : Bodies fs) (go : Exp → Env → State → Outcome) (ih : Held go) where
      keeps_arguments : (es : Exps) (env : Env) (s : State) (f : List Value → State → Outcome) → Owned (all_owns es) → I s
          → ((vs : List Value) (s : State) → I s → Keeps I Q (f vs s)) → Keeps I Q (arguments fs go es env s f)
      unfolding arguments owns
      keeps_arguments last env s f m h g = g [] s h
      keeps_arguments (more e es) env s f m h g =
          keeps_then _ (ih e env s (front (owns e) _ m) h) λ v s₁ h₁.
          keeps_arguments es env s₁ _ (back (owns e) _ m) h₁ λ vs s₂ h₂. g (v ∷ vs) s₂ h₂

      keeps_invoke : (i : ℕ) (g : Fun) (vs : List Value) (s : State) → Q i → Body g → I s → Keeps I Q (invoke fs go i g vs s)
      unfolding invoke
      keeps_invoke i putchar vs s q b h = keeps_want _ _ λ v. keeps_want _ _ λ z. keeps_put i q z s h
      keeps_invoke i (defined ps e) vs s q b h = keeps_enter ps vs empty _ λ env. ih e env s b h

      keeps_passes : (n : ℕ) (d e : Exp) (env : Env) (s : State) → Owned (owns d) → Owned (owns e) → I s
          → Keeps I Q (passes fs go n d e env s)
      unfolding passes
      keeps_passes zero d e env s m k h = keeps_stop (own_of Q d m) h
      keeps_passes (suc n) d e env s m k h =
          keeps_then _ (ih d env s m h) λ v s₁ h₁.
          keeps_want _ _ λ b.
          keeps_choose b _ _
          (λ _. keeps_then _ (ih e env s₁ k h₁) λ x s₂ h₂. keeps_want _ _ λ _. keeps_passes n d e env s₂ m k h₂)
          (keeps_value h₁)

      keeps_turns : (n : ℕ) (x : Name) (through : Bool) (to by z : ℤ) (e : Exp) (env : Env) (s : State) → Owned (owns e) → I s
          → Keeps I Q (turns fs go n x through to by z e env s)
      unfolding turns
      keeps_turns zero x through to by z e env s k h = keeps_choose _ _ _ (λ _. keeps_stop (own_of Q e k) h) (keeps_value h)
      keeps_turns (suc n) x through to by z e env s k h =
          keeps_choose _ _ _
          (λ _. keeps_then _ (ih e _ s k h) λ v s₁ h₁.
          keeps_want _ _ λ _. keeps_choose _ _ _ (λ _. keeps_turns n x through to by _ e env s₁ k h₁) (keeps_value h₁))
          (keeps_value h)

      keeps_step : (e : Exp) (env : Env) (s : State) → Owned (owns e) → I s → Keeps I Q (step fs go e env s)
      unfolding step owns
      keeps_step (name i x) env s m h = keeps_want _ _ λ v. keeps_value h
      keeps_step (literal i l) env s m h = keeps_value h
      keeps_step (unary i o e) env s m h = keeps_then _ (ih e env s (rest m) h) λ v s₁ h₁. keeps_unary i (first m) o v s₁ h₁
      keeps_step (binary i o e f) env s m h =
          let r = back (owns e) _ m in
          keeps_then _ (ih e env s (front (owns e) _ m) h) λ v s₁ h₁.
          keeps_choose _ _ _ (λ _. keeps_value h₁)
          (keeps_then _ (ih f env s₁ (rest r) h₁) λ x s₂ h₂. keeps_binary i (first r) o v x s₂ h₂)
      keeps_step (follow i e f) env s m h =
          keeps_then _ (ih e env s (front (owns e) _ m) h) λ v s₁ h₁. keeps_want _ _ λ _. ih f env s₁ (rest (back (owns e) _ m)) h₁
      keeps_step (group i e) env s m h = ih e env s (rest m) h
      keeps_step (block i e) env s m h = keeps_then _ (ih e env s (rest m) h) λ v s₁ h₁. keeps_value (c.free s₁ _ h₁)
      keeps_step (call i f es) env s m h =
          keeps_arguments es env s _ (rest m) h λ vs s₁ h₁.
          keeps_when _ _ _ (λ g e. keeps_invoke i g vs s₁ (first m) (bodies f g e) h₁) keeps_stuck
      keeps_step (bind i x e f) env s m h =
          keeps_then _ (ih e env s (front (owns e) _ (rest m)) h) λ v s₁ h₁. ih f (push x v env) s₁ (back (owns e) _ (rest m)) h₁
      keeps_step (branch i d e f) env s m h =
          let r = back (owns d) _ (rest m) in
          keeps_then _ (ih d env s (front (owns d) _ (rest m)) h) λ v s₁ h₁.
          keeps_want _ _ λ b.
          keeps_choose b _ _ (λ _. ih e env s₁ (front (owns e) _ r) h₁) (ih f env s₁ (back (owns e) _ r) h₁)
      keeps_step (loop i d e) env s m h =
          keeps_passes s.units d e env s (front (owns d) _ (rest m)) (back (owns d) _ (rest m)) h
      keeps_step (counted i x through es e) env s m h =
          keeps_arguments es env s _ (front (all_owns es) _ (rest m)) h λ vs s₁ h₁.
          keeps_bounds vs _ λ from to by.
          keeps_choose _ _ _ (λ _. keeps_stop (first m) h₁)
          (keeps_turns s₁.units x through to by from e env s₁ (back (all_owns es) _ (rest m)) h₁)

    pub keeps : (fs : Scope Fun) → Bodies fs → (d : ℕ) → Held (eval fs d)
    unfolding eval begin
    keeps fs bodies zero e env s m h = keeps_charge (own e) (own_of Q e m) s.units s _ refl h λ s₁ h₁. keeps_stop (own_of Q e m) h₁
    keeps fs bodies (suc d) e env s m h =
        keeps_charge (own e) (own_of Q e m) s.units s _ refl h λ s₁ h₁.
        keeps_step fs bodies (eval fs d) (keeps fs bodies d) e env s₁ m h₁

    -- ---- a run

    with_body : (fs : Scope Fun) (x : Name) (g : Fun) → Body g → Bodies fs → Bodies (push x g fs)
    unfolding nearest
    with_body fs x g b h f k e = go (same f x) e
      where
        go : (t : Bool) → cond t (some g) (nearest f fs) ≡ some k → Body k
        go true d = subst Body (some_one d) b
        go false d = h f k d

    bodies_of : (ds : List Def) (os : List Own) (fs : Scope Fun) → Owned (def_owns ds os) → Bodies fs → Bodies (functions ds fs)
    unfolding def_owns functions
    bodies_of [] os fs m h = h
    bodies_of (d ∷ ds) os fs m h =
        bodies_of ds os _ (back (owns d.body) _ m) (with_body fs d.called (defined d.params d.body) (front (owns d.body) _ m) h)

    pub keeps_run : (p : Program) (allowance room : ℕ) → Owned (program_owns p) → I (start allowance room) → Keeps I Q (run p allowance room)
    unfolding run program_owns nearest
    keeps_run p allowance room m h =
        keeps _ (bodies_of p.defs _ _ m (with_body empty _ putchar tt λ f g e. absurd (none_some e))) ACTIVE p.main empty _
        (main_owned p.defs _ m) h

-- where nothing is asked of tokens
pub keeps_any : (I : State → Type 0) → Closed I → (fs : Scope Fun) (d : ℕ) (e : Exp) (env : Env) (s : State) → I s
    → Keeps I (λ _. Unit {0}) (eval fs d e env s)
keeps_any I c fs d e env s h = keeps I _ c fs (λ f g k. body g) d e env s (everywhere (owns e) λ _. tt) h
  where
    body : (g : Fun) → Body I (λ _. Unit {0}) g
    body putchar = tt
    body (defined ps e) = everywhere (owns e) λ _. tt
