-- The table of shapes by its entries: the kind of a row that has a shape, operators' kinds, and shapes by how many children
-- they have.
use mathlib.Core.Bool.{Bool, true, false}
use mathlib.Core.Option.{some}
use mathlib.Core.Path.{◌≡◌, refl, sym, subst}
use Prim.Native.Nat.{ℕ, ◌≤◌}
use native.Mathlib.Omega.{arith}
use lib.Dec.{T, eqb, leb, leb→le}
use Rattle.language.specs.Tokens.{NAME, NUMBER, FLOAT_NUMBER, LET, WHILE, IF, PLUS, BECOMES, SEMI, LPAR, LBRACE}
use Rattle.language.specs.Trees.{Literal, Unary, minus, not, fetch, new, Binary, add, sub, mul, div, less, equal, and, or, assign}
use Rattle.language.proofs.Grammar.Entries.{every, entry_passes, by_entries}
use Rattle.layout.specs.Rows.{PREFIX, CALL, literal_kind, unary_kind, binary_kind, range_kind}
use Rattle.layout.specs.Decode.{Shape, a_name, a_number, a_float, a_for, a_follow, a_group, a_block, a_call, a_let, an_if}
use Rattle.layout.specs.Decode.{a_while, a_constant, a_unary, a_binary, shapes, shape_of, children, counts}

-- ---- kinds

-- the kind of a shape's rows
unfoldable pub shape_kind : Shape → ℕ
shape_kind a_name = NAME
shape_kind a_number = NUMBER
shape_kind a_float = FLOAT_NUMBER
shape_kind a_follow = SEMI
shape_kind a_group = LPAR
shape_kind a_block = LBRACE
shape_kind a_call = CALL
shape_kind a_let = LET
shape_kind an_if = IF
shape_kind a_while = WHILE
shape_kind (a_constant l) = literal_kind l
shape_kind (a_for b) = range_kind b
shape_kind (a_unary o) = unary_kind o
shape_kind (a_binary o) = binary_kind o

-- a row that has a shape is of the shape's kind
pub kind_of_shape : (k : ℕ) (s : Shape) → shape_of k ≡ some s → k ≡ shape_kind s
unfolding shape_of shape_kind literal_kind unary_kind binary_kind range_kind every
kind_of_shape k s e = sym (by_entries shape_kind (λ c. c) shapes k tt e)

-- operators before an operand lie above all others
pub unary_high : (o : Unary) → PREFIX ≤ unary_kind o
unfolding unary_kind
unary_high minus = omega arith
unary_high not = omega arith
unary_high fetch = omega arith
unary_high new = omega arith

-- and those between two operands in one stretch
pub binary_between : (o : Binary) → (PLUS ≤ binary_kind o) × (binary_kind o ≤ BECOMES)
unfolding binary_kind
binary_between add = (omega arith, omega arith)
binary_between sub = (omega arith, omega arith)
binary_between mul = (omega arith, omega arith)
binary_between div = (omega arith, omega arith)
binary_between less = (omega arith, omega arith)
binary_between equal = (omega arith, omega arith)
binary_between and = (omega arith, omega arith)
binary_between or = (omega arith, omega arith)
binary_between assign = (omega arith, omega arith)

-- a `for` is told by its kind
pub range_counts : (b : Bool) → counts (range_kind b) ≡ true
unfolding counts range_kind
range_counts false = refl
range_counts true = refl

-- ---- children

-- tests on a kind that give each entry's number of children give that of a kind's shape
pub children_by_entries : (of : ℕ → ℕ) → T (every (λ c s. eqb (children s) (of c)) shapes) → (k : ℕ) {s : Shape} → shape_of k ≡ some s
    → children s ≡ of k
unfolding shape_of
children_by_entries of t k e = by_entries children of shapes k t e

-- no shape has more than three
pub children_most : (k : ℕ) {s : Shape} → shape_of k ≡ some s → children s ≤ 3
unfolding shape_of every
children_most k {s} e = leb→le (children s) 3 (entry_passes (λ c s. leb (children s) 3) shapes k tt e)

-- shapes by how many they have
pub data Parted : Shape → ℕ → Type 0 where
  is_name : Parted a_name 0
  is_number : Parted a_number 0
  is_float : Parted a_float 0
  is_constant : {l : Literal} → Parted (a_constant l) 0
  is_call : Parted a_call 0
  is_for : {b : Bool} → Parted (a_for b) 0
  is_unary : {o : Unary} → Parted (a_unary o) 1
  is_group : Parted a_group 1
  is_block : Parted a_block 1
  is_binary : {o : Binary} → Parted (a_binary o) 2
  is_follow : Parted a_follow 2
  is_let : Parted a_let 2
  is_while : Parted a_while 2
  is_if : Parted an_if 3

parts : (s : Shape) → Parted s (children s)
parts a_name = is_name
parts a_number = is_number
parts a_float = is_float
parts (a_constant l) = is_constant
parts a_call = is_call
parts (a_for b) = is_for
parts (a_unary o) = is_unary
parts a_group = is_group
parts a_block = is_block
parts (a_binary o) = is_binary
parts a_follow = is_follow
parts a_let = is_let
parts a_while = is_while
parts an_if = is_if

-- a shape that has so many
pub parted : (s : Shape) {n : ℕ} → children s ≡ n → Parted s n
parted s e = subst (Parted s) e (parts s)
