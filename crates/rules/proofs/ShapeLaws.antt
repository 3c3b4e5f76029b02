-- What a row's kind says of its node: how many children it has, and what it asks of their types.
use mathlib.Core.Bool.{Bool, true, false, cond, ◌||◌, false≢true}
use mathlib.Core.Option.{some}
use mathlib.Core.Path.{◌≡◌, refl, sym, ap, subst₂, ◌∙◌}
use Rattle.std.specs.Prelude.{Ok}
use Prim.Native.Nat.{ℕ, ◌≤◌, ◌<◌}
use native.Mathlib.Omega.{arith}
use lib.Dec.{eqb, leb, ltb}
use borrow.Author.Tests.{eqb-true}
use Rattle.language.specs.Tokens.{entry, UPTO, THROUGH, NUMBER, FLOAT_NUMBER, TRUE, FALSE, TT, LET, IF, WHILE, SEMI, LPAR, LBRACE, PLUS, AND, OR, EQUAL}
use Rattle.language.specs.Trees.{Ty, int, bool, unit, float, ref, add, sub, mul, div, less, equal, and, or, assign}
use Rattle.language.specs.Trees.{whole, truth, trivial, decimal}
use Rattle.language.specs.Meaning.{type_number}
use Rattle.language.proofs.Grammar.Entries.{every}
use Rattle.language.proofs.Executable.Checks.{ok, after_ok}
use Rattle.language.proofs.Executable.Checker.{literal_type, infer}
use Rattle.layout.specs.Rows.{PREFIX, literal_kind, binary_kind}
use Rattle.layout.specs.Decode.{Shape, a_for, shape_of, counts, build}
use Rattle.layout.proofs.Shapes.{shape_kind, kind_of_shape, range_counts, unary_high, binary_between, children_by_entries}
use Rattle.layout.proofs.Shapes.{Parted, is_name, is_number, is_float, is_constant, is_call, is_for, is_unary, is_group, is_block}
use Rattle.layout.proofs.Shapes.{is_binary, is_follow, is_let, is_while, parted}
use Rattle.rules.specs.Asked.{Typing, Tells, Children, Constant, AsksOne, AsksTwo, Prefixed, Between, Follows, Repeats}
use Rattle.rules.specs.Asked.{as_arithmetic, Operand, Result}
use Rattle.rules.proofs.TellLaws.{type_is, tells_from}

-- ---- how many children

-- the tests of the code
abbrev pub children_by : ℕ → ℕ
children_by k =
    cond (leb PREFIX k) 1
    (cond (leb FLOAT_NUMBER k) 0
    (cond (eqb k LPAR) 1
    (cond (eqb k LBRACE) 1
    (cond (eqb k IF) 3
    (cond (eqb k LET) 2
    (cond (eqb k WHILE) 2
    (cond (ltb k PLUS) 0 2)))))))

-- the tests on a kind tell how many children its node has
pub children_are : (k : ℕ) {n : ℕ} → children_by k ≡ n → Children k n
unfolding every
children_are k e s h = sym e ∙ sym (children_by_entries children_by tt k h)

-- the same, of a row
pub children_as : {k j m n : ℕ} → k ≡ j → m ≡ n → Children k m → Children j n
children_as e d h = subst₂ (λ (k m : ℕ). Children k m) e d h

-- a `for` is told by its kind
pub for_shape : (k : ℕ) → counts k ≡ true → (b : Bool) × (shape_of k ≡ some (a_for b))
unfolding counts shape_of entry
for_shape k h = go (eqb k UPTO) (eqb k THROUGH) refl refl h
  where
    go : (a b : Bool) → eqb k UPTO ≡ a → eqb k THROUGH ≡ b → (a || b) ≡ true → (c : Bool) × (shape_of k ≡ some (a_for c))
    go true b x y z = (false, ap shape_of (eqb-true k UPTO x))
    go false true x y z = (true, ap shape_of (eqb-true k THROUGH y))
    go false false x y z = absurd (false≢true z)

-- ---- the types of operators, by the tests

-- the arithmetic type of a float is float
pub arithmetic_float : {m : ℕ} → m ≡ type_number float → (t : Ty) → m ≡ type_number t → type_number float ≡ type_number (as_arithmetic t)
unfolding type_number
arithmetic_float e int p = absurd (omega arith)
arithmetic_float e bool p = absurd (omega arith)
arithmetic_float e unit p = absurd (omega arith)
arithmetic_float e float p = refl
arithmetic_float e (ref t) p = absurd (omega arith)

-- and of all else int
pub arithmetic_other : {m : ℕ} → (m ≡ type_number float → ⊥) → (t : Ty) → m ≡ type_number t → type_number int ≡ type_number (as_arithmetic t)
arithmetic_other h int p = refl
arithmetic_other h bool p = refl
arithmetic_other h unit p = refl
arithmetic_other h float p = absurd (h p)
arithmetic_other h (ref t) p = refl

module _ (k : ℕ) {m n : ℕ} where
  -- `&&` and `||` want bools, `==` wants ints, the others the arithmetic type of the first
  pub operand_is : (k ≡ AND → n ≡ type_number bool) → (k ≡ OR → n ≡ type_number bool) → (k ≡ EQUAL → n ≡ type_number int)
      → ((k ≡ AND → ⊥) → (k ≡ OR → ⊥) → (k ≡ EQUAL → ⊥) → (t : Ty) → m ≡ type_number t → n ≡ type_number (as_arithmetic t))
      → Operand k m n
  unfolding binary_kind
  operand_is a b c r add t x d = r (λ e. omega arith) (λ e. omega arith) (λ e. omega arith) t
  operand_is a b c r sub t x d = r (λ e. omega arith) (λ e. omega arith) (λ e. omega arith) t
  operand_is a b c r mul t x d = r (λ e. omega arith) (λ e. omega arith) (λ e. omega arith) t
  operand_is a b c r div t x d = r (λ e. omega arith) (λ e. omega arith) (λ e. omega arith) t
  operand_is a b c r less t x d = r (λ e. omega arith) (λ e. omega arith) (λ e. omega arith) t
  operand_is a b c r equal t x d = λ p. c d
  operand_is a b c r and t x d = λ p. a d
  operand_is a b c r or t x d = λ p. b d
  operand_is a b c r assign t x d = absurd (x refl)

  -- + - * / give what they take, the others a bool
  pub result_is : (k < AND → n ≡ m) → (AND ≤ k → n ≡ type_number bool) → Result k m n
  unfolding binary_kind
  result_is a b add t x d p = a (omega arith) ∙ p
  result_is a b sub t x d p = a (omega arith) ∙ p
  result_is a b mul t x d p = a (omega arith) ∙ p
  result_is a b div t x d p = a (omega arith) ∙ p
  result_is a b less t x d p = b (omega arith)
  result_is a b equal t x d p = b (omega arith)
  result_is a b and t x d p = b (omega arith)
  result_is a b or t x d p = b (omega arith)
  result_is a b assign t x d p = absurd (x refl)

-- ---- constants

-- the five kinds of constants tell the type
pub constant_is : {k n : ℕ} → (k ≡ NUMBER → n ≡ type_number int) → (k ≡ FLOAT_NUMBER → n ≡ type_number float)
    → (k ≡ TRUE → n ≡ type_number bool) → (k ≡ FALSE → n ≡ type_number bool) → (k ≡ TT → n ≡ type_number unit) → Constant k n
unfolding infer build literal_type shape_kind literal_kind
constant_is {k} {n} a f b c d ts s Δ Γ i x y z es sh ch nn nc nf = go s (parted s ch) (kind_of_shape k s sh)
  where
    go : (s : Shape) → Parted s 0 → k ≡ shape_kind s → (t : Ty) × (infer Δ (build ts s i x y z es) Γ ≡ ok t) × (n ≡ type_number t)
    go s is_name e = absurd (nn e)
    go s is_call e = absurd (nc e)
    go s (is_for {b = m}) e = absurd (nf (ap counts e ∙ range_counts m))
    go s is_number e = (int, refl, a e)
    go s is_float e = (float, refl, f e)
    go s (is_constant {l = whole m}) e = (int, refl, a e)
    go s (is_constant {l = decimal v}) e = (float, refl, f e)
    go s (is_constant {l = truth true}) e = (bool, refl, b e)
    go s (is_constant {l = truth false}) e = (bool, refl, c e)
    go s (is_constant {l = trivial}) e = (unit, refl, d e)

-- ---- a node over its children

module _ (k : ℕ) {n : ℕ} (i : ℕ) where
  -- a Group and a Block have their child's type
  pub one_inside : k < PREFIX → AsksOne k n i (Ok n)
  unfolding infer build shape_kind
  one_inside l ts s Δ Γ a b c es t sh ch e p = go s (parted s ch) (kind_of_shape k s sh)
    where
      go : (s : Shape) → Parted s 1 → k ≡ shape_kind s → Tells (Ok n) (infer Δ (build ts s i a b c es) Γ)
      go s is_group d = type_is t e p
      go s is_block d = type_is t e p
      go s (is_unary {o}) d = absurd (omega (arith, unary_high o))

  -- an operator asks
  pub one_prefixed : {r : Typing} → PREFIX ≤ k → Prefixed k n i r → AsksOne k n i r
  unfolding infer build shape_kind
  one_prefixed {r} l h ts s Δ Γ a b c es t sh ch e p = go s (parted s ch) (kind_of_shape k s sh)
    where
      go : (s : Shape) → Parted s 1 → k ≡ shape_kind s → Tells r (infer Δ (build ts s i a b c es) Γ)
      go s is_group d = absurd (omega arith)
      go s is_block d = absurd (omega arith)
      go s (is_unary {o}) d = tells_from (after_ok _ e refl) (h o t d p)

module _ (k : ℕ) {m n : ℕ} (i : ℕ) {r : Typing} where
  -- `;` asks
  pub two_follow : k ≡ SEMI → Follows m n i r → AsksTwo k m n i r
  unfolding infer build shape_kind
  two_follow l h ts s Δ Γ a b c es t u sh ch nl e p f q = go s (parted s ch) (kind_of_shape k s sh)
    where
      go : (s : Shape) → Parted s 2 → k ≡ shape_kind s → Tells r (infer Δ (build ts s i a b c es) Γ)
      go s is_follow d = tells_from (after_ok _ e (after_ok _ f refl)) (h t u p q)
      go s is_while d = absurd (omega arith)
      go s is_let d = absurd (omega arith)
      go s (is_binary {o}) d = absurd (let x = binary_between o in omega (arith, x.0, x.1))

  -- `while` asks
  pub two_while : k ≡ WHILE → Repeats m n i r → AsksTwo k m n i r
  unfolding infer build shape_kind
  two_while l h ts s Δ Γ a b c es t u sh ch nl e p f q = go s (parted s ch) (kind_of_shape k s sh)
    where
      go : (s : Shape) → Parted s 2 → k ≡ shape_kind s → Tells r (infer Δ (build ts s i a b c es) Γ)
      go s is_follow d = absurd (omega arith)
      go s is_while d = tells_from (after_ok _ e (after_ok _ f refl)) (h t u p q)
      go s is_let d = absurd (omega arith)
      go s (is_binary {o}) d = absurd (let x = binary_between o in omega (arith, x.0, x.1))

  -- an operator between its operands asks
  pub two_between : (k ≡ SEMI → ⊥) → (k ≡ WHILE → ⊥) → Between k m n i r → AsksTwo k m n i r
  unfolding infer build shape_kind
  two_between ns nw h ts s Δ Γ a b c es t u sh ch nl e p f q = go s (parted s ch) (kind_of_shape k s sh)
    where
      go : (s : Shape) → Parted s 2 → k ≡ shape_kind s → Tells r (infer Δ (build ts s i a b c es) Γ)
      go s is_follow d = absurd (ns d)
      go s is_while d = absurd (nw d)
      go s is_let d = absurd (nl d)
      go s (is_binary {o}) d = tells_from (after_ok _ e (after_ok _ f refl)) (h o t u d p q)
