-- What a run works on: values, cells, the state of a run, and how a node ends (S060 to S063; rows 50 to 58).
use Rattle.std.specs.Prelude.{Bool, true, false, cond, List, [], ◌∷◌, ℕ, suc, eqb, leb, ℤ, Float}
use Rattle.std.proofs.Math.Option.{Option, none, some}

-- ---- values and cells

-- a reference is the birth number of its cell (S062)
pub data Value : Type 0 where
  number : ℤ → Value
  float : Float → Value
  flag : Bool → Value
  nothing : Value
  cell : ℕ → Value

-- A value by its kind: what it carries if it is of the kind, else none. All that comes after goes by these.
abbrev pub as_int : Value → Option ℤ
as_int (number z) = some z
as_int (float x) = none
as_int (flag b) = none
as_int nothing = none
as_int (cell b) = none

abbrev pub as_float : Value → Option Float
as_float (number z) = none
as_float (float x) = some x
as_float (flag b) = none
as_float nothing = none
as_float (cell b) = none

abbrev pub as_bool : Value → Option Bool
as_bool (number z) = none
as_bool (float x) = none
as_bool (flag b) = some b
as_bool nothing = none
as_bool (cell b) = none

abbrev pub as_unit : Value → Option (Unit {0})
as_unit (number z) = none
as_unit (float x) = none
as_unit (flag b) = none
as_unit nothing = some tt
as_unit (cell b) = none

abbrev pub as_cell : Value → Option ℕ
as_cell (number z) = none
as_cell (float x) = none
as_cell (flag b) = none
as_cell nothing = none
as_cell (cell b) = some b

-- a truth, of which the test holds
abbrev pub has : Option Bool → (Bool → Bool) → Bool
has none f = false
has (some b) f = f b

-- the live cells, the newest first, each with its birth number and what it holds
pub data Cells : Type 0 where
  no_cell : Cells
  live : ℕ → Value → Cells → Cells

unfoldable pub count : Cells → ℕ
count no_cell = 0
count (live b v cs) = suc (count cs)

-- what the cell born as b holds; none if it is freed, whatever was born since
unfoldable pub held : ℕ → Cells → Option Value
held b no_cell = none
held b (live c v cs) = cond (eqb b c) (some v) (held b cs)

unfoldable pub store : ℕ → Value → Cells → Cells
store b w no_cell = no_cell
store b w (live c v cs) = cond (eqb b c) (live c w cs) (live c v (store b w cs))

-- those born up to b stay
unfoldable pub keep : ℕ → Cells → Cells
keep b no_cell = no_cell
keep b (live c v cs) = cond (leb c b) (live c v (keep b cs)) (keep b cs)

-- ---- the state of a run

pub record State : Type 0 where
  -- units left
  pub units : ℕ
  -- cells born so far, freed ones too
  pub births : ℕ
  -- bytes of the output buffer that are still free
  pub room : ℕ
  pub cells : Cells
  -- the bytes printed, the newest first
  pub printed : List ℕ

abbrev pub with_units : ℕ → State → State
with_units u s = record { units = u; births = s.births; room = s.room; cells = s.cells; printed = s.printed }

abbrev pub with_cells : Cells → State → State
with_cells cs s = record { units = s.units; births = s.births; room = s.room; cells = cs; printed = s.printed }

-- S060: a cell with the next birth number
abbrev pub with_birth : Value → State → State
with_birth v s = record {
  units = s.units;
  births = suc s.births;
  room = s.room;
  cells = live (suc s.births) v s.cells;
  printed = s.printed;
}

abbrev pub with_byte : ℕ → ℕ → State → State
with_byte n left s = record {
  units = s.units;
  births = s.births;
  room = left;
  cells = s.cells;
  printed = n
      ∷ s.printed;
}

-- ---- how a node ends

-- rows 50 to 58, in their order
pub data Stop : Type 0 where
  no_unit too_deep out_of_range zero_divisor cell_freed cells_full not_a_byte output_full zero_step : Stop

pub data Outcome : Type 0 where
  value : Value → State → Outcome
  -- why, and the token of the node
  stop : Stop → ℕ → State → Outcome
  -- An operand of the wrong kind, a name with no binding, arguments that do not match: no reading that has a type comes
  -- here.
  stuck : Outcome

-- a value goes on; anything else stands
unfoldable pub then : Outcome → (Value → State → Outcome) → Outcome
then (value v s) k = k v s
then (stop w i s) k = stop w i s
then stuck k = stuck

-- the arms are functions, so that only the one that is taken is worked out
unfoldable pub choose : Bool → (Unit {0} → Outcome) → (Unit {0} → Outcome) → Outcome
choose true x y = x tt
choose false x y = y tt

unfoldable pub when_some : {A : Type 0} → Option A → (A → Outcome) → (Unit {0} → Outcome) → Outcome
when_some none f x = x tt
when_some (some a) f x = f a

-- what is wanted goes on; where it is not there, it is stuck
abbrev pub want : {A : Type 0} → Option A → (A → Outcome) → Outcome
want o f = when_some o f λ _. stuck

-- two ints, or else two floats
unfoldable pub alike : Value → Value → (ℤ → ℤ → Outcome) → (Float → Float → Outcome) → Outcome
alike v w f g =
    when_some (as_int v) (λ x. want (as_int w) λ y. f x y) λ _.
    want (as_float v) λ x. want (as_float w) λ y. g x y

-- of one value that value
unfoldable pub only : List Value → Option Value
only [] = none
only (v ∷ []) = some v
only (v ∷ w ∷ vs) = none
