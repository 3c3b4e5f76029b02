-- Rows by their kinds: which nodes wait for a part, in which phase, and kinds that cannot be the same.
use mathlib.Core.Path.{◌≡◌, refl, sym, ap, ◌∙◌}
use mathlib.Core.Bool.{Bool, true, false, cond}
use Prim.Native.Nat.{ℕ, ◌≤◌}
use native.Mathlib.Omega.{arith}
use lib.Dec.{eqb, leb}
use borrow.Author.Tests.{ne_eqb, le-leb, lt-leb, leb-true}
use Rattle.language.specs.Tokens.{NAME, NUMBER, FLOAT_NUMBER, LET, IF, WHILE, UPTO, THROUGH, PLUS, BECOMES, SEMI, LPAR, LBRACE}
use Rattle.language.specs.Trees.{Literal, whole, truth, trivial, decimal, Unary, minus, fetch, new, Binary}
use Rattle.layout.specs.Rows.{PREFIX, CALL, literal_kind, unary_kind, binary_kind, range_kind}
use Rattle.layout.specs.Decode.{counts}
use Rattle.runner.specs.Phases.{LAST, UNARY, LEFT, BEFORE, INSIDE, BOUND, CONDITION, TEST, waits, phase_of, operates}

-- kinds that wait, and those that do not
pub unary_waits : (o : Unary) → waits (unary_kind o) ≡ true
unfolding waits unary_kind
unary_waits minus = refl
unary_waits Unary.not = refl
unary_waits fetch = refl
unary_waits new = refl

pub binary_waits : (o : Binary) → waits (binary_kind o) ≡ true
unfolding waits binary_kind
binary_waits Binary.add = refl
binary_waits Binary.sub = refl
binary_waits Binary.mul = refl
binary_waits Binary.div = refl
binary_waits Binary.less = refl
binary_waits Binary.equal = refl
binary_waits Binary.and = refl
binary_waits Binary.or = refl
binary_waits Binary.assign = refl

pub literal_waits : (l : Literal) → waits (literal_kind l) ≡ false
unfolding waits literal_kind
literal_waits (whole n) = refl
literal_waits (truth true) = refl
literal_waits (truth false) = refl
literal_waits trivial = refl
literal_waits (decimal x) = refl

pub literal_range : (l : Literal) → (NUMBER ≤ literal_kind l) × (literal_kind l ≤ FLOAT_NUMBER)
unfolding literal_kind
literal_range (whole n) = (omega arith, omega arith)
literal_range (truth true) = (omega arith, omega arith)
literal_range (truth false) = (omega arith, omega arith)
literal_range trivial = (omega arith, omega arith)
literal_range (decimal x) = (omega arith, omega arith)

pub range_waits : (b : Bool) → waits (range_kind b) ≡ true
unfolding waits range_kind
range_waits false = refl
range_waits true = refl

pub range_between : (b : Bool) → (UPTO ≤ range_kind b) × (range_kind b ≤ THROUGH)
unfolding range_kind
range_between false = (omega arith, omega arith)
range_between true = (omega arith, omega arith)

-- the mark of a `for` tells whether its end is a pass too
pub range_through : (b : Bool) → eqb (range_kind b) THROUGH ≡ b
unfolding range_kind
range_through false = refl
range_through true = refl

pub call_counts : counts CALL ≡ false
unfolding counts
call_counts = refl

pub semi_waits : waits SEMI ≡ true
unfolding waits
semi_waits = refl

pub group_waits : waits LPAR ≡ true
unfolding waits
group_waits = refl

pub block_waits : waits LBRACE ≡ true
unfolding waits
block_waits = refl

pub call_waits : waits CALL ≡ true
unfolding waits
call_waits = refl

pub let_waits : waits LET ≡ true
unfolding waits
let_waits = refl

pub if_waits : waits IF ≡ true
unfolding waits
if_waits = refl

pub while_waits : waits WHILE ≡ true
unfolding waits
while_waits = refl

pub unary_phase : (o : Unary) → phase_of (unary_kind o) ≡ UNARY
unfolding phase_of unary_kind
unary_phase minus = refl
unary_phase Unary.not = refl
unary_phase fetch = refl
unary_phase new = refl

pub binary_phase : (o : Binary) → phase_of (binary_kind o) ≡ LEFT
unfolding phase_of binary_kind
binary_phase Binary.add = refl
binary_phase Binary.sub = refl
binary_phase Binary.mul = refl
binary_phase Binary.div = refl
binary_phase Binary.less = refl
binary_phase Binary.equal = refl
binary_phase Binary.and = refl
binary_phase Binary.or = refl
binary_phase Binary.assign = refl

pub group_phase : phase_of LPAR ≡ LAST
unfolding phase_of
group_phase = refl

pub block_phase : phase_of LBRACE ≡ INSIDE
unfolding phase_of
block_phase = refl

pub semi_phase : phase_of SEMI ≡ BEFORE
unfolding phase_of
semi_phase = refl

pub let_phase : phase_of LET ≡ BOUND
unfolding phase_of
let_phase = refl

pub if_phase : phase_of IF ≡ CONDITION
unfolding phase_of
if_phase = refl

pub while_phase : phase_of WHILE ≡ TEST
unfolding phase_of
while_phase = refl

-- ---- kinds that differ

-- true is not false
pub clash_bool : {A : Type 0} {b : Bool} → b ≡ true → b ≡ false → A
clash_bool e f = let z : ◌≡◌ {A = Bool} true false = sym e ∙ f in let y : ◌≡◌ {A = ℕ} 0 1 = cc in absurd (omega arith)

pub clash : {A : Type 0} {x a b : ℕ} → x ≡ a → x ≡ b → (a ≡ b → ⊥) → A
clash p r n = absurd (n (sym p ∙ r))

pub clash_waits : {A : Type 0} {x a : ℕ} → x ≡ a → waits x ≡ false → waits a ≡ true → A
clash_waits p f t = clash_bool t (ap waits (sym p) ∙ f)

pub clash_still : {A : Type 0} {x a : ℕ} → x ≡ a → waits x ≡ true → waits a ≡ false → A
clash_still p t f = clash_bool (ap waits (sym p) ∙ t) f

-- ---- operators, told by their kinds alone

-- a node of this kind waits in this phase for its first part, and is no name, call, Block or `for`
pub record Plain (k p : ℕ) : Type 0 where
  pub no_name : k ≡ NAME → ⊥
  pub no_call : k ≡ CALL → ⊥
  pub no_block : k ≡ LBRACE → ⊥
  pub no_for : counts k ≡ false
  pub waits_for : waits k ≡ true
  pub phase_is : p ≡ phase_of k

pub number_waits : waits NUMBER ≡ false
unfolding waits
number_waits = refl

pub number_named : (k : ℕ) → k ≡ NUMBER → k ≡ NAME → ⊥
number_named k e f = omega arith

mark_waits : (k : ℕ) → PLUS ≤ k → (k ≡ FLOAT_NUMBER → ⊥) → waits k ≡ true
unfolding waits
mark_waits k l n = rw (ne_eqb k FLOAT_NUMBER n, le-leb PLUS k l) refl

no_range : (k : ℕ) → (k ≡ UPTO → ⊥) → (k ≡ THROUGH → ⊥) → counts k ≡ false
unfolding counts
no_range k n m = rw (ne_eqb k UPTO n, ne_eqb k THROUGH m) refl

between_phase : (k : ℕ) → PLUS ≤ k → k ≤ BECOMES → LEFT ≡ phase_of k
unfolding phase_of
between_phase k l h =
    rw (
      ne_eqb k LPAR (λ z. omega arith),
      ne_eqb k LBRACE (λ z. omega arith),
      ne_eqb k SEMI (λ z. omega arith),
      ne_eqb k LET (λ z. omega arith),
      ne_eqb k IF (λ z. omega arith),
      ne_eqb k WHILE (λ z. omega arith),
      lt-leb PREFIX k (omega arith),
    ) refl

before_phase : (k : ℕ) → PREFIX ≤ k → UNARY ≡ phase_of k
unfolding phase_of
before_phase k l =
    rw (
      ne_eqb k LPAR (λ z. omega arith),
      ne_eqb k LBRACE (λ z. omega arith),
      ne_eqb k SEMI (λ z. omega arith),
      ne_eqb k LET (λ z. omega arith),
      ne_eqb k IF (λ z. omega arith),
      ne_eqb k WHILE (λ z. omega arith),
      le-leb PREFIX k l,
    ) refl

both : (a b : Bool) → cond a b false ≡ true → (a ≡ true) × (b ≡ true)
both true b e = (refl, e)
both false b e = clash_bool e refl

between : (k : ℕ) → operates k ≡ true → (PLUS ≤ k) × (k ≤ BECOMES)
unfolding operates
between k e = let x = both (leb PLUS k) (leb k BECOMES) e in (leb-true PLUS k x.0, leb-true k BECOMES x.1)

pub operator_plain : (k : ℕ) → operates k ≡ true → Plain k LEFT
operator_plain k e =
    let l : PLUS ≤ k = (between k e).0 in
    let h : k ≤ BECOMES = (between k e).1 in
    record {
      no_name = λ z. omega arith;
      no_call = λ z. omega arith;
      no_block = λ z. omega arith;
      no_for = no_range k (λ z. omega arith) (λ z. omega arith);
      waits_for = mark_waits k l (λ z. omega arith);
      phase_is = between_phase k l h;
    }

pub prefix_plain : (k : ℕ) → PREFIX ≤ k → Plain k UNARY
prefix_plain k l = record {
  no_name = λ z. omega arith;
  no_call = λ z. omega arith;
  no_block = λ z. omega arith;
  no_for = no_range k (λ z. omega arith) (λ z. omega arith);
  waits_for = mark_waits k (omega arith) (λ z. omega arith);
  phase_is = before_phase k l;
}
