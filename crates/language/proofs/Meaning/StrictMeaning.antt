-- A stricter meaning: every operand is asked for its kind as soon as it is worked out, and it is stuck if it is of another,
-- before anything else begins. It asks the left side of an operator before the right side begins and before `&&` and `||` look
-- whether it settles the result; each bound of a `for` before the next, and that they are two or three before the first; of a
-- call first whether there is such a function and whether the arguments are as many as it takes, and then each argument before
-- the next. The written meaning asks these when the node has all its parts, so a part that stops could leave something wrong
-- unnoticed: `for i in true..1/0{tt}`, `g(1/0)` with no such g, `f(true,1/0)` with f of two ints. All else the written meaning
-- asks at once.
use mathlib.Core.Bool.{Bool, true, false, ◌||◌}
use mathlib.Core.List.{List, [], ◌∷◌, map}
use mathlib.Core.Option.{Option, none, some}
use Prim.Native.Nat.{ℕ, zero, suc}
use Rattle.language.specs.Sizes.{ACTIVE}
use Rattle.language.specs.Trees.{Ty, int, bool, unit, ref, Binary, add, sub, mul, div, less, equal, and, or, assign, Exp, name, literal}
use Rattle.language.specs.Trees.{unary, binary, follow, group, block, call, bind, branch, loop, counted, Exps, last, more, own, Param}
use Rattle.language.specs.Trees.{Program, Scope, empty, push, nearest, PUTCHAR}
use Rattle.language.specs.State.{Value, State, Outcome, value, stop, stuck, then, as_int, as_float, as_bool, as_unit, as_cell}
use Rattle.language.specs.State.{choose, want, too_deep, zero_step}
use Rattle.language.specs.Meaning.{Env, begin, is_zero, apply_binary, settles, Fun, putchar, defined, with_bounds}
use Rattle.language.specs.Meaning.{invoke, turns, step, functions, start}

-- ---- kinds

abbrev there : {A : Type 0} → Option A → Bool
there none = false
there (some a) = true

-- v is of the kind that o wants on its left
unfoldable pub suits : Binary → Value → Bool
suits add v = there (as_int v) || there (as_float v)
suits sub v = there (as_int v) || there (as_float v)
suits mul v = there (as_int v) || there (as_float v)
suits div v = there (as_int v) || there (as_float v)
suits less v = there (as_int v) || there (as_float v)
suits equal v = there (as_int v)
suits and v = there (as_bool v)
suits or v = there (as_bool v)
suits assign v = there (as_cell v)

-- v is of the kind that values of the type t are
unfoldable pub of_kind : Ty → Value → Bool
of_kind int v = there (as_int v)
of_kind Ty.float v = there (as_float v)
of_kind bool v = there (as_bool v)
of_kind unit v = there (as_unit v)
of_kind (ref t) v = there (as_cell v)

-- the types of what a function takes
unfoldable pub takes_of : Fun → List Ty
takes_of putchar = int ∷ []
takes_of (defined ps e) = map (λ (p : Param). p.type) ps

-- as many as there are types
unfoldable pub as_many : Exps → List Ty → Bool
as_many last [] = true
as_many last (t ∷ ts) = false
as_many (more e es) [] = false
as_many (more e es) (t ∷ ts) = as_many es ts

-- the bounds of a `for` are ints, two or three
unfoldable pub bound_types : Exps → List Ty
bound_types last = int ∷ int ∷ []
bound_types (more e last) = int ∷ int ∷ []
bound_types (more e (more f last)) = int ∷ int ∷ []
bound_types (more e (more f (more g es))) = int ∷ int ∷ int ∷ []

-- ---- the stricter meaning

module _ (fs : Scope Fun) (go : Exp → Env → State → Outcome) where
  -- one after the other, each asked for the kind of its type
  unfoldable pub strict_each : Exps → List Ty → Env → State → (List Value → State → Outcome) → Outcome
  strict_each last [] env s k = k [] s
  strict_each last (t ∷ ts) env s k = stuck
  strict_each (more e es) [] env s k = stuck
  strict_each (more e es) (t ∷ ts) env s k =
      then (go e env s) λ v s.
      choose (of_kind t v) (λ _. strict_each es ts env s λ vs s. k (v ∷ vs) s) λ _. stuck

  -- that they are as many is asked first
  unfoldable pub strict_all : Exps → List Ty → Env → State → (List Value → State → Outcome) → Outcome
  strict_all es ts env s k = choose (as_many es ts) (λ _. strict_each es ts env s k) λ _. stuck

  unfoldable pub strict_step : Exp → Env → State → Outcome
  strict_step (binary i o e f) env s =
      then (go e env s) λ v s.
      choose (suits o v) (λ _. choose (settles o v) (λ _. value v s) λ _. then (go f env s) λ w s. apply_binary i o v w s) λ _.
      stuck
  strict_step (call i f es) env s =
      want (nearest f fs) λ g. strict_all es (takes_of g) env s λ vs s. invoke fs go i g vs s
  strict_step (counted i x through es e) env s =
      strict_all es (bound_types es) env s λ vs s.
      with_bounds vs λ from to by.
      choose (is_zero by) (λ _. stop zero_step i s) λ _. turns fs go s.units x through to by from e env s
  strict_step (name i x) env s = step fs go (name i x) env s
  strict_step (literal i l) env s = step fs go (literal i l) env s
  strict_step (unary i o e) env s = step fs go (unary i o e) env s
  strict_step (follow i e f) env s = step fs go (follow i e f) env s
  strict_step (group i e) env s = step fs go (group i e) env s
  strict_step (block i e) env s = step fs go (block i e) env s
  strict_step (bind i x e f) env s = step fs go (bind i x e f) env s
  strict_step (branch i c e f) env s = step fs go (branch i c e f) env s
  strict_step (loop i c e) env s = step fs go (loop i c e) env s

unfoldable pub strict_eval : Scope Fun → ℕ → Exp → Env → State → Outcome
strict_eval fs zero e env s = begin (own e) s λ s. stop too_deep (own e) s
strict_eval fs (suc d) e env s = begin (own e) s λ s. strict_step fs (strict_eval fs d) e env s

unfoldable pub strict_run : Program → ℕ → ℕ → Outcome
strict_run p allowance room =
    strict_eval (functions p.defs (push PUTCHAR putchar empty)) ACTIVE p.main empty (start allowance room)
