-- What a reading means when it runs (S055 to S067). It goes over trees and knows no memory but the cells.
use Rattle.std.specs.Prelude.{Bool, true, false, cond, not, ◌&&◌, ◌||◌, List, [], ◌∷◌, ℕ, zero, suc, ◌+◌, eqb, leb, ltb}
use Rattle.std.specs.Prelude.{ℤ, pos, negsuc, neg_ℤ, ◌+ℤ◌, ◌-ℤ◌, ◌*ℤ◌}
use Rattle.std.specs.Int.Signed.{lt_z, quot_z}
use Rattle.std.specs.Float.Ieee as Ieee
use Rattle.std.specs.Float.{binary64}
use Rattle.std.specs.Float.Ieee.{to_bits}
use Rattle.language.specs.Sizes.{ACTIVE, CELLS, LARGEST, BYTE}
use Rattle.language.specs.State.{Value, number, float, flag, nothing, cell, no_cell, count, held, store}
use Rattle.language.specs.State.{keep, State, with_units, with_cells, with_birth, with_byte, no_unit}
use Rattle.language.specs.State.{too_deep, out_of_range, zero_divisor, cell_freed, cells_full, not_a_byte}
use Rattle.language.specs.State.{output_full, zero_step, Outcome, value, stop, stuck, then, as_int}
use Rattle.language.specs.State.{as_bool, as_unit, as_cell, has, choose, when_some, want, alike, only}
use Rattle.language.specs.Trees.{Name, Ty, int, bool, unit, ref, Literal, whole, truth, trivial}
use Rattle.language.specs.Trees.{decimal, Unary, minus, fetch, new, Binary, add, sub, mul, div, less}
use Rattle.language.specs.Trees.{equal, and, or, assign, Exp, name, literal, unary, binary, follow}
use Rattle.language.specs.Trees.{group, block, call, bind, branch, loop, counted, Exps, last, more}
use Rattle.language.specs.Trees.{own, Param, Def, Program, Scope, empty, push, nearest, PUTCHAR}

-- ---- beginning a node

-- S056, its first half: one unit is used, if one is left
unfoldable pub charge : ℕ → ℕ → State → (State → Outcome) → Outcome
charge zero i s k = stop no_unit i s
charge (suc u) i s k = k (with_units u s)

unfoldable pub begin : ℕ → State → (State → Outcome) → Outcome
begin i s k = charge s.units i s k

-- ---- what operators do, their operands known (S055, S059 to S064)

-- the range of int: `negsuc n` is -(n + 1)
unfoldable pub in_range : ℤ → Bool
in_range (pos n) = leb n LARGEST
in_range (negsuc n) = leb n LARGEST

unfoldable pub fit : ℕ → ℤ → State → Outcome
fit i z s = choose (in_range z) (λ _. value (number z) s) λ _. stop out_of_range i s

unfoldable pub is_zero : ℤ → Bool
is_zero (pos n) = eqb n 0
is_zero (negsuc n) = false

unfoldable pub same_int : ℤ → ℤ → Bool
same_int (pos m) (pos n) = eqb m n
same_int (pos m) (negsuc n) = false
same_int (negsuc m) (pos n) = false
same_int (negsuc m) (negsuc n) = eqb m n

unfoldable pub create : ℕ → Value → State → Outcome
create i v s =
    choose (ltb (count s.cells) CELLS) (λ _. value (cell (suc s.births)) (with_birth v s)) λ _. stop cells_full i
    s

unfoldable pub apply_unary : ℕ → Unary → Value → State → Outcome
apply_unary i minus v s = want (as_int v) λ x. fit i (neg_ℤ x) s
apply_unary i Unary.not v s = want (as_bool v) λ b. value (flag (not b)) s
apply_unary i fetch v s = want (as_cell v) λ b. when_some (held b s.cells) (λ w. value w s) λ _. stop cell_freed i s
apply_unary i new v s = create i v s

-- `quot_z` drops the fraction toward zero
unfoldable pub quotient : ℕ → ℤ → ℤ → State → Outcome
quotient i x y s = choose (is_zero y) (λ _. stop zero_divisor i s) λ _. fit i (quot_z x y) s

-- A float's operation is the one 64-bit operation that the logic names: rounded once, and never a stop (R08.4, R08.5).
unfoldable pub apply_binary : ℕ → Binary → Value → Value → State → Outcome
apply_binary i add v w s = alike v w (λ x y. fit i (x +ℤ y) s) λ x y. value (float (Ieee.add binary64 x y)) s
apply_binary i sub v w s = alike v w (λ x y. fit i (x -ℤ y) s) λ x y. value (float (Ieee.sub binary64 x y)) s
apply_binary i mul v w s = alike v w (λ x y. fit i (x *ℤ y) s) λ x y. value (float (Ieee.mul binary64 x y)) s
apply_binary i div v w s = alike v w (λ x y. quotient i x y s) λ x y. value (float (Ieee.div binary64 x y)) s
apply_binary i less v w s = alike v w (λ x y. value (flag (lt_z x y)) s) λ x y. value (flag (Ieee.lt x y)) s
apply_binary i equal v w s = want (as_int v) λ x. want (as_int w) λ y. value (flag (same_int x y)) s
apply_binary i and v w s = want (as_bool v) λ x. want (as_bool w) λ y. value (flag y) s
apply_binary i or v w s = want (as_bool v) λ x. want (as_bool w) λ y. value (flag y) s
apply_binary i assign v w s =
    want (as_cell v) λ b.
    when_some (held b s.cells) (λ _. value nothing (with_cells (store b w s.cells) s)) λ _. stop cell_freed i s

-- 003's short circuit: this value on the left is the result, and the right side is not begun
unfoldable pub settles : Binary → Value → Bool
settles add v = false
settles sub v = false
settles mul v = false
settles div v = false
settles less v = false
settles equal v = false
settles and v = has (as_bool v) not
settles or v = has (as_bool v) λ b. b
settles assign v = false

-- S065
unfoldable pub emit : ℕ → ℕ → ℕ → State → Outcome
emit zero i n s = stop output_full i s
emit (suc left) i n s = value (number (pos n)) (with_byte n left s)

unfoldable pub put : ℕ → ℤ → State → Outcome
put i (pos n) s = choose (leb n BYTE) (λ _. emit s.room i n s) λ _. stop not_a_byte i s
put i (negsuc n) s = stop not_a_byte i s

unfoldable pub literal_value : Literal → Value
literal_value (whole n) = number (pos n)
literal_value (truth b) = flag b
literal_value trivial = nothing
literal_value (decimal x) = float x

-- ---- counted loops (R12.5 to R12.10)

-- with no step it is 1, or -1 where the start is above the end
unfoldable pub towards : ℤ → ℤ → ℤ
towards from to = cond (lt_z to from) (negsuc 0) (pos 1)

-- start, end and step, by the values that they came to
unfoldable pub with_bounds : List Value → (ℤ → ℤ → ℤ → Outcome) → Outcome
with_bounds [] k = stuck
with_bounds (v ∷ []) k = stuck
with_bounds (v ∷ w ∷ []) k = want (as_int v) λ from. want (as_int w) λ to. k from to (towards from to)
with_bounds (v ∷ w ∷ u ∷ []) k = want (as_int v) λ from. want (as_int w) λ to. want (as_int u) λ by. k from to by
with_bounds (v ∷ w ∷ u ∷ t ∷ vs) k = stuck

-- there is a pass for z: it lies before the end, as the step goes, or is the end where that is a pass too
unfoldable pub due : Bool → ℤ → ℤ → ℤ → Bool
due through to by z = cond (lt_z (pos 0) by) (lt_z z to) (lt_z to z) || (through && same_int z to)

-- ---- what a node does, once begun

pub data Fun : Type 0 where
  putchar : Fun
  defined : List Param → Exp → Fun

abbrev pub Env : Type 0
Env = Scope Value

-- a body sees its parameters and nothing of the caller
unfoldable pub enter : List Param → List Value → Env → (Env → Outcome) → Outcome
enter [] [] env k = k env
enter [] (v ∷ vs) env k = stuck
enter (p ∷ ps) [] env k = stuck
enter (p ∷ ps) (v ∷ vs) env k = enter ps vs (push p.called v env) k

-- `go` is the meaning of a node that is begun while this one is active too
module _ (fs : Scope Fun) (go : Exp → Env → State → Outcome) where
  unfoldable pub arguments : Exps → Env → State → (List Value → State → Outcome) → Outcome
  arguments last env s k = k [] s
  arguments (more e es) env s k = then (go e env s) λ v s. arguments es env s λ vs s. k (v ∷ vs) s

  -- S057
  unfoldable pub invoke : ℕ → Fun → List Value → State → Outcome
  invoke i putchar vs s = want (only vs) λ v. want (as_int v) λ z. put i z s
  invoke i (defined ps e) vs s = enter ps vs empty λ env. go e env s

  -- S058: tests and passes. Every test begins a node, so there are at most as many as units were left at the first, and
  -- the one after those finds none.
  unfoldable pub passes : ℕ → Exp → Exp → Env → State → Outcome
  passes zero c e env s = stop no_unit (own c) s
  passes (suc n) c e env s =
      then (go c env s) λ v s.
      want (as_bool v) λ b.
      choose b (λ _. then (go e env s) λ v s. want (as_unit v) λ _. passes n c e env s) λ _.
      value nothing s

  -- Passes of a `for`, from z on. Every pass begins a node, so there are at most as many as units were left at the
  -- first, and the one after those finds none. Past the range of int there is none.
  unfoldable pub turns : ℕ → Name → Bool → ℤ → ℤ → ℤ → Exp → Env → State → Outcome
  turns zero x through to by z e env s = choose (due through to by z) (λ _. stop no_unit (own e) s) λ _. value nothing s
  turns (suc n) x through to by z e env s =
      choose (due through to by z) (λ _.
      then (go e (push x (number z) env) s) λ v s.
      want (as_unit v) λ _.
      choose (in_range (z +ℤ by)) (λ _. turns n x through to by (z +ℤ by) e env s) λ _. value nothing s) λ _.
      value nothing s

  unfoldable pub step : Exp → Env → State → Outcome
  step (name i x) env s = want (nearest x env) λ v. value v s
  step (literal i l) env s = value (literal_value l) s
  step (unary i o e) env s = then (go e env s) λ v s. apply_unary i o v s
  step (binary i o e f) env s =
      then (go e env s) λ v s.
      choose (settles o v) (λ _. value v s) λ _.
      then (go f env s) λ w s. apply_binary i o v w s
  step (follow i e f) env s = then (go e env s) λ v s. want (as_unit v) λ _. go f env s
  step (group i e) env s = go e env s
  -- S061: the cells born since it began are freed
  step (block i e) env s = then (go e env s) λ v t. value v (with_cells (keep s.births t.cells) t)
  step (call i f es) env s = arguments es env s λ vs s. want (nearest f fs) λ g. invoke i g vs s
  step (bind i x e f) env s = then (go e env s) λ v s. go f (push x v env) s
  step (branch i c e f) env s =
      then (go c env s) λ v s. want (as_bool v) λ b. choose b (λ _. go e env s) λ _. go f env s
  step (loop i c e) env s = passes s.units c e env s
  step (counted i x through es e) env s =
      arguments es env s λ vs s.
      with_bounds vs λ from to by.
      choose (is_zero by) (λ _. stop zero_step i s) λ _. turns s.units x through to by from e env s

-- S056: a node, where d more than it may be active; at none it begins and is too deep
unfoldable pub eval : Scope Fun → ℕ → Exp → Env → State → Outcome
eval fs zero e env s = begin (own e) s λ s. stop too_deep (own e) s
eval fs (suc d) e env s = begin (own e) s λ s. step fs (eval fs d) e env s

-- ---- a run

-- the program's functions, after `putchar`
unfoldable pub functions : List Def → Scope Fun → Scope Fun
functions [] fs = fs
functions (d ∷ ds) fs = functions ds (push d.called (defined d.params d.body) fs)

abbrev pub start : ℕ → ℕ → State
start allowance room = record { units = allowance; births = 0; room = room; cells = no_cell; printed = [] }

unfoldable pub run : Program → ℕ → ℕ → Outcome
run p allowance room =
    eval (functions p.defs (push PUTCHAR putchar empty)) ACTIVE p.main empty (start allowance room)

-- ---- what is reported (S066, S067)

unfoldable pub value_number : Value → ℤ
value_number (number z) = z
-- R08.7: its 64 bits; the one not-a-number there is has those that are asked for
value_number (float x) = pos (to_bits binary64 x)
value_number (flag true) = pos 1
value_number (flag false) = pos 0
value_number nothing = pos 0
value_number (cell b) = pos b

unfoldable pub type_number : Ty → ℕ
type_number int = 1
type_number bool = 2
type_number unit = 3
type_number Ty.float = 4
type_number (ref t) = 8 + type_number t
