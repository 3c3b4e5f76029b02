-- The meaning as it was before there were floats (R08.8): an operator of arithmetic took ints alone, no literal had a point, and no
-- loop counted. What
-- is not said again here stood word for word as it stands now.
use mathlib.Core.List.{List, [], ◌∷◌}
use Prim.Native.Nat.{ℕ, zero, suc}
use lib.IntN.{pos, ◌+ℤ◌, ◌-ℤ◌, ◌*ℤ◌}
use lib.Signed.{lt_z, quot_z}
use Rattle.language.specs.Sizes.{ACTIVE}
use Rattle.language.specs.Trees.{Literal, whole, truth, trivial, decimal, Binary, add, sub, mul, div, less}
use Rattle.language.specs.Trees.{equal, and, or, assign, Exp, name, literal, unary, binary, follow, group, block, call, bind, branch, loop, counted}
use Rattle.language.specs.Trees.{Exps, last, more, own, Def, Program, Scope, empty, push, PUTCHAR}
use Rattle.language.specs.State.{Value, number, flag, nothing, as_int, as_bool, as_cell, held}
use Rattle.language.specs.State.{store, State, with_cells, too_deep, zero_divisor, cell_freed, Outcome, value, stop, stuck}
use Rattle.language.specs.State.{then, choose, when_some, want}
use Rattle.language.specs.Meaning.{Env, begin, fit, is_zero, same_int, settles}
use Rattle.language.specs.Meaning.{Fun, putchar, step, functions, start}

-- ---- as it was

unfoldable pub old_binary : ℕ → Binary → Value → Value → State → Outcome
old_binary i add v w s = want (as_int v) λ x. want (as_int w) λ y. fit i (x +ℤ y) s
old_binary i sub v w s = want (as_int v) λ x. want (as_int w) λ y. fit i (x -ℤ y) s
old_binary i mul v w s = want (as_int v) λ x. want (as_int w) λ y. fit i (x *ℤ y) s
old_binary i div v w s =
    want (as_int v) λ x. want (as_int w) λ y. choose (is_zero y) (λ _. stop zero_divisor i s) λ _. fit i (quot_z x y) s
old_binary i less v w s = want (as_int v) λ x. want (as_int w) λ y. value (flag (lt_z x y)) s
old_binary i equal v w s = want (as_int v) λ x. want (as_int w) λ y. value (flag (same_int x y)) s
old_binary i and v w s = want (as_bool v) λ x. want (as_bool w) λ y. value (flag y) s
old_binary i or v w s = want (as_bool v) λ x. want (as_bool w) λ y. value (flag y) s
old_binary i assign v w s =
    want (as_cell v) λ b.
    when_some (held b s.cells) (λ _. value nothing (with_cells (store b w s.cells) s)) λ _. stop cell_freed i s

-- of a literal or a loop that there was not yet, nothing was said
unfoldable pub old_literal : Literal → State → Outcome
old_literal (whole n) s = value (number (pos n)) s
old_literal (truth b) s = value (flag b) s
old_literal trivial s = value nothing s
old_literal (decimal x) s = stuck

module _ (fs : Scope Fun) (go : Exp → Env → State → Outcome) where
  unfoldable pub old_step : Exp → Env → State → Outcome
  old_step (literal i l) env s = old_literal l s
  old_step (binary i o e f) env s =
      then (go e env s) λ v s.
      choose (settles o v) (λ _. value v s) λ _.
      then (go f env s) λ w s. old_binary i o v w s
  old_step (name i x) env s = step fs go (name i x) env s
  old_step (unary i o e) env s = step fs go (unary i o e) env s
  old_step (follow i e f) env s = step fs go (follow i e f) env s
  old_step (group i e) env s = step fs go (group i e) env s
  old_step (block i e) env s = step fs go (block i e) env s
  old_step (call i f es) env s = step fs go (call i f es) env s
  old_step (bind i x e f) env s = step fs go (bind i x e f) env s
  old_step (branch i c e f) env s = step fs go (branch i c e f) env s
  old_step (loop i c e) env s = step fs go (loop i c e) env s
  old_step (counted i x b es e) env s = stuck

unfoldable pub old_eval : Scope Fun → ℕ → Exp → Env → State → Outcome
old_eval fs zero e env s = begin (own e) s λ s. stop too_deep (own e) s
old_eval fs (suc d) e env s = begin (own e) s λ s. old_step fs (old_eval fs d) e env s

unfoldable pub old_run : Program → ℕ → ℕ → Outcome
old_run p allowance room =
    old_eval (functions p.defs (push PUTCHAR putchar empty)) ACTIVE p.main empty (start allowance room)

-- ---- trees without a float number or a counted loop

abbrev pub BareLiteral : Literal → Type 0
BareLiteral (whole n) = Unit {0}
BareLiteral (truth b) = Unit {0}
BareLiteral trivial = Unit {0}
BareLiteral (decimal x) = ⊥

unfoldable mutual
  pub Bare : Exp → Type 0
  Bare (name i x) = Unit {0}
  Bare (literal i l) = BareLiteral l
  Bare (unary i o e) = Bare e
  Bare (binary i o e f) = Bare e × Bare f
  Bare (follow i e f) = Bare e × Bare f
  Bare (group i e) = Bare e
  Bare (block i e) = Bare e
  Bare (call i f es) = BareAll es
  Bare (bind i x e f) = Bare e × Bare f
  Bare (branch i c e f) = Bare c × Bare e × Bare f
  Bare (loop i c e) = Bare c × Bare e
  Bare (counted i x b es e) = ⊥

  pub BareAll : Exps → Type 0
  BareAll last = Unit {0}
  BareAll (more e es) = Bare e × BareAll es

unfoldable pub BareDefs : List Def → Type 0
BareDefs [] = Unit {0}
BareDefs (d ∷ ds) = Bare d.body × BareDefs ds

pub record BareProgram (p : Program) : Type 0 where
  pub defs : BareDefs p.defs
  pub main : Bare p.main
