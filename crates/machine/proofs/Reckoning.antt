-- Operators of two operands, of which the left one is an int, a truth or a cell.
use mathlib.Core.Path.{◌≡◌, refl, sym, ap, subst, ◌∙◌}
use mathlib.Core.Bool.{Bool, true, false}
use mathlib.Core.List.{List}
use mathlib.Core.Option.{none, some}
use Prim.Native.Nat.{ℕ, suc, ◌-◌, ◌≤◌}
use native.Mathlib.Omega.{arith}
use lib.Dec.{eqb}
use lib.Ieee.{Float}
use lib.IntN.{ℤ, pos, negsuc, ◌+ℤ◌, ◌-ℤ◌, ◌*ℤ◌}
use lib.Signed.{lt_z, quot_z}
use borrow.Author.Tests.{eq-eqb, ne_eqb, eqb-true, eqb-false}
use mir.Syntax.{w32}
use mir.Val.{of_z, SFits}
use Rattle.language.specs.Tokens.{PLUS, MINUS, STAR, SLASH, AND, OR, LESS, BECOMES}
use Rattle.language.specs.Trees.{Binary, assign}
use Rattle.language.specs.State as M
use Rattle.language.specs.State.{number, float, flag, nothing, cell, as_int, as_bool, as_cell, value, choose, when_some, want, alike}
use Rattle.language.specs.Meaning.{apply_binary, quotient, is_zero, same_int}
use Rattle.language.proofs.Meaning.CellTypes.{cond_all, none_some, some_one}
use Rattle.layout.specs.Values.{meant}
use Rattle.layout.specs.declared.values.Value.{Value}
use Rattle.layout.specs.declared.values.Value.TheVariants.{Flag}
use Rattle.machine.specs.Rows.{binary_of, OnNumbers}
use Rattle.machine.specs.Outcomes.{Tells, tells, anything, memory, told, Room, Means, Reckoned, Judged, Fitted, Applied}
use Rattle.numbers.specs.declared.Stop.{Stop}
use Rattle.machine.specs.declared.state.Tally.{Tally}
use Rattle.machine.specs.Outcomes.{Outcome}
use Rattle.std.specs.Prelude.{Ok, Err}
use Rattle.machine.proofs.Telling.{tells_same, want_some, want_none, want_any, alike_int}
use Rattle.machine.proofs.CellLaws.{applied_still}

-- an operator on numbers that is none of the others is ==
pub is_equal : (op : ℕ) → OnNumbers op → (op ≡ PLUS → ⊥) → (op ≡ MINUS → ⊥) → (op ≡ STAR → ⊥) → (op ≡ SLASH → ⊥) → (op ≡ LESS → ⊥)
    → binary_of op ≡ Binary.equal
unfolding binary_of
is_equal op n a b c d e =
    rw (
      ne_eqb op BECOMES n.0,
      ne_eqb op AND n.1,
      ne_eqb op OR n.2,
      ne_eqb op PLUS a,
      ne_eqb op MINUS b,
      ne_eqb op STAR c,
      ne_eqb op SLASH d,
      ne_eqb op LESS e,
    ) refl

-- ---- two ints

module _ (op : ℕ) (x y : ℤ) (r : Outcome) where
  abbrev Reckons : Type 0
  Reckons = Reckoned (λ i σ. apply_binary i (binary_of op) (number x) (number y) σ) r

  -- +
  pub reckons_add : op ≡ PLUS → Fitted (x +ℤ y) r → Reckons
  unfolding apply_binary alike when_some binary_of
  reckons_add e h = λ i σ. h i σ ∙ rw e refl

  -- -
  pub reckons_sub : op ≡ MINUS → Fitted (x -ℤ y) r → Reckons
  unfolding apply_binary alike when_some binary_of
  reckons_sub e h = λ i σ. h i σ ∙ rw e refl

  -- *
  pub reckons_mul : op ≡ STAR → Fitted (x *ℤ y) r → Reckons
  unfolding apply_binary alike when_some binary_of
  reckons_mul e h = λ i σ. h i σ ∙ rw e refl

  -- / by 0
  pub reckons_zero : op ≡ SLASH → y ≡ pos 0 → r ≡ Err Stop.ZeroDivisor → Reckons
  unfolding apply_binary alike quotient when_some choose is_zero binary_of
  reckons_zero e z h = λ i σ. ap (told i σ) h ∙ rw (e, z) refl

  not_zero : (z : ℤ) → (z ≡ pos 0 → ⊥) → is_zero z ≡ false
  unfolding is_zero
  not_zero (pos n) h = ne_eqb n 0 (λ q. h (ap pos q))
  not_zero (negsuc n) h = refl

  -- /
  pub reckons_div : op ≡ SLASH → (y ≡ pos 0 → ⊥) → Fitted (quot_z x y) r → Reckons
  unfolding apply_binary alike quotient when_some choose binary_of
  reckons_div e z h = λ i σ. h i σ ∙ rw (e, not_zero y z) refl

  -- <
  pub reckons_less : op ≡ LESS → r ≡ Ok (Flag (lt_z x y)) → Reckons
  unfolding apply_binary alike when_some binary_of
  reckons_less e h = λ i σ. ap (told i σ) h ∙ rw e refl

  -- none of these: ==
  pub reckons_equal : OnNumbers op → (op ≡ PLUS → ⊥) → (op ≡ MINUS → ⊥) → (op ≡ STAR → ⊥) → (op ≡ SLASH → ⊥) → (op ≡ LESS → ⊥)
      → r ≡ Ok (Flag (same_int x y)) → Reckons
  unfolding apply_binary when_some
  reckons_equal n a b c d e h = λ i σ. ap (told i σ) h ∙ rw (is_equal op n a b c d e) refl

-- ---- numbers by their bits

minus_eq : (m n : ℕ) → m ≤ 4294967295 → n ≤ 4294967295 → eqb (4294967296 - suc m) (4294967296 - suc n) ≡ eqb m n
minus_eq m n a b = by (eqb m n) refl
  where
    by : (t : Bool) → eqb m n ≡ t → eqb (4294967296 - suc m) (4294967296 - suc n) ≡ t
    by true e =
        let q = eqb-true m n e in
        eq-eqb (4294967296 - suc m) (4294967296 - suc n) (ap (λ (k : ℕ). 4294967296 - suc k) q)
    by false e = ne_eqb (4294967296 - suc m) (4294967296 - suc n) (λ q. eqb-false m n e (omega arith))

-- numbers are equal where their bits are
pub bits_equal : (x y : ℤ) → SFits w32 x → SFits w32 y → eqb (of_z w32 x) (of_z w32 y) ≡ same_int x y
unfolding same_int
bits_equal (pos m) (pos n) f g = refl
bits_equal (pos m) (negsuc n) f g = ne_eqb m (4294967296 - suc n) (λ q. omega (arith, f.sfits, g.sfits))
bits_equal (negsuc m) (pos n) f g = ne_eqb (4294967296 - suc m) n (λ q. omega (arith, f.sfits, g.sfits))
bits_equal (negsuc m) (negsuc n) f g = minus_eq m n (omega (arith, f.sfits)) (omega (arith, g.sfits))

-- a number without bits is 0
pub bits_zero : (x : ℤ) → SFits w32 x → of_z w32 x ≡ 0 → x ≡ pos 0
bits_zero (pos n) f e = ap pos e
bits_zero (negsuc n) f e = absurd (omega (arith, e, f.sfits))

-- ---- two operands

int_is : (v : M.Value) {x : ℤ} → some x ≡ as_int v → number x ≡ v
int_is (number z) e = ap number (some_one e)
int_is (float x) e = absurd (none_some (sym e))
int_is (flag b) e = absurd (none_some (sym e))
int_is nothing e = absurd (none_some (sym e))
int_is (cell n) e = absurd (none_some (sym e))

cell_is : (v : M.Value) {x : ℕ} → some x ≡ as_cell v → cell x ≡ v
cell_is (cell n) e = ap cell (some_one e)
cell_is (number z) e = absurd (none_some (sym e))
cell_is (float x) e = absurd (none_some (sym e))
cell_is (flag b) e = absurd (none_some (sym e))
cell_is nothing e = absurd (none_some (sym e))

-- what holds of every operator on numbers
on_numbers : (P : Binary → Type 0) (op : ℕ) → OnNumbers op → P Binary.add → P Binary.sub → P Binary.mul → P Binary.div → P Binary.less
    → P Binary.equal → P (binary_of op)
unfolding binary_of
on_numbers P op n p m t d l e =
    rw (ne_eqb op BECOMES n.0, ne_eqb op AND n.1, ne_eqb op OR n.2)
    (cond_all P (eqb op PLUS) (λ _. p) λ _.
    cond_all P (eqb op MINUS) (λ _. m) λ _.
    cond_all P (eqb op STAR) (λ _. t) λ _.
    cond_all P (eqb op SLASH) (λ _. d) λ _.
    cond_all P (eqb op LESS) (λ _. l) λ _. e)

-- what is told of operands, whatever is done with two that are alike, is told of every operator on numbers
pub all_numbers : (op : ℕ) (a b : M.Value) {q : M.Outcome} → OnNumbers op → ((f : ℤ → ℤ → M.Outcome) (g : Float → Float → M.Outcome) → Tells q (alike a b f g))
    → ((f : ℤ → ℤ → M.Outcome) → Tells q (want (as_int a) λ x. want (as_int b) λ y. f x y)) → (i : ℕ) (σ : M.State)
    → Tells q (apply_binary i (binary_of op) a b σ)
unfolding apply_binary
all_numbers op a b {q} n h e i σ =
    on_numbers (λ x. Tells q (apply_binary i x a b σ)) op n (h _ _) (h _ _) (h _ _) (h _ _) (h _ _) (e λ x y. value (flag (same_int x y)) σ)

module _ (op : ℕ) (a b : M.Value) {w : List ℕ} {s : Tally} (room : Room w s) where
  abbrev doing : Means
  doing i σ = apply_binary i (binary_of op) a b σ

  -- two ints
  pub applies_ints : {x y : ℤ} (r : Outcome) → some x ≡ as_int a → some y ≡ as_int b
      → Reckoned (λ i σ. apply_binary i (binary_of op) (number x) (number y) σ) r → Applied doing w w s r
  applies_ints {x} {y} r d e h =
      applied_still doing r room
      (λ i o.
      tells_same (h i (memory w o s)
      ∙ ap (λ (z : M.Value). apply_binary i (binary_of op) z (number y) (memory w o s)) (int_is a d)
      ∙ ap (λ (z : M.Value). apply_binary i (binary_of op) a z (memory w o s)) (int_is b e)))

  -- nothing that changes memory
  pub applies_judged : (r : Outcome) → Judged doing r → Applied doing w w s r
  applies_judged r h = applied_still doing r room (λ i o. h i (memory w o s))

  -- an int on the left alone
  pub stuck_right : OnNumbers op → (r : Outcome) → {x : ℤ} → some x ≡ as_int a → none ≡ as_int b → Applied doing w w s r
  stuck_right n r d e =
      applied_still doing r room
      (λ i o. all_numbers op a b n (λ f g. alike_int a b f g d e) (λ f. want_some (as_int a) _ d (want_none (as_int b) _ e)) i (memory w o s))

  is_assign : op ≡ BECOMES → binary_of op ≡ assign
  unfolding binary_of
  is_assign e = rw e refl

  -- := on a cell
  pub applies_assign : op ≡ BECOMES → {n : ℕ} → some n ≡ as_cell a → {w1 : List ℕ} {r : Outcome}
      → Applied (λ i σ. apply_binary i assign (cell n) b σ) w w1 s r → Applied doing w w1 s r
  applies_assign l {n} e {w1} {r} h =
      subst (λ (u : Binary). Applied (λ i σ. apply_binary i u a b σ) w w1 s r) (sym (is_assign l))
      (subst (λ (z : M.Value). Applied (λ i σ. apply_binary i assign z b σ) w w1 s r) (cell_is a e) h)

  assign_none : none ≡ as_cell a → (q : M.Outcome) (i : ℕ) (σ : M.State) → Tells q (apply_binary i assign a b σ)
  unfolding apply_binary
  assign_none e q i σ = want_none (as_cell a) _ e

  -- := on something else
  pub stuck_assign : op ≡ BECOMES → (r : Outcome) → none ≡ as_cell a → Applied doing w w s r
  stuck_assign l r e =
      subst (λ (u : Binary). Applied (λ i σ. apply_binary i u a b σ) w w s r) (sym (is_assign l))
      (applied_still (λ i σ. apply_binary i assign a b σ) r room (λ i o. assign_none e _ i _))

-- ---- && and ||

itself : (b : M.Value) (σ : M.State) → Tells (value b σ) (want (as_bool b) λ y. value (flag y) σ)
unfolding when_some
itself (number z) σ = anything
itself (float x) σ = anything
itself (flag y) σ = tells
itself nothing σ = anything
itself (cell n) σ = anything

logic : (a b : M.Value) (σ : M.State) → Tells (value b σ) (want (as_bool a) λ x. want (as_bool b) λ y. value (flag y) σ)
logic a b σ = want_any _ _ λ x. itself b σ

module _ (op : ℕ) (a : M.Value) (v : Value) {w : List ℕ} {s : Tally} (room : Room w s) where
  abbrev logical : Means
  logical i σ = apply_binary i (binary_of op) a (meant v) σ

  logical_right : AND ≤ op → op ≤ OR → (i : ℕ) (σ : M.State) → Tells (value (meant v) σ) (logical i σ)
  unfolding apply_binary binary_of
  logical_right l h i σ = by (eqb op AND) refl
    where
      by : (t : Bool) → eqb op AND ≡ t → Tells (value (meant v) σ) (logical i σ)
      by true e = let k : op ≡ AND = eqb-true op AND e in rw k (logic a (meant v) σ)
      by false e = let n = eqb-false op AND e in let k : op ≡ OR = omega (arith, n) in rw k (logic a (meant v) σ)

  -- && or ||, that its left side did not settle
  pub applies_logical : AND ≤ op → op ≤ OR → Applied logical w w s (Ok v)
  applies_logical l h = applied_still logical (Ok v) room (λ i o. logical_right l h i (memory w o s))
