-- The numbers that a `for` goes through: whether one is due, and the one behind it.
use mathlib.Core.Path.{◌≡◌, refl, sym, ap, subst, ◌∙◌}
use mathlib.Core.Bool.{Bool, true, false}
use mathlib.Core.Option.{none, some}
use lib.Dec.{eqb}
use lib.IntN.{ℤ, pos, negsuc, ◌+ℤ◌}
use mir.Syntax.{w32}
use mir.Val.{of_z, SFits}
use Rattle.language.specs.State as M
use Rattle.language.specs.State.{number, as_int}
use Rattle.language.specs.Meaning.{is_zero, same_int, towards, due}
use Rattle.language.proofs.Meaning.CellTypes.{none_some, some_one}
use Rattle.layout.specs.Values.{meant}
use Rattle.layout.specs.declared.values.Value.{Value}
use Rattle.machine.specs.Operands.{OfInt, before, stepped, written}
use Rattle.std.specs.Prelude.{Option, option_map}
use Rattle.machine.proofs.Ranges.{zero_fits, fits_range, over_range}
use Rattle.machine.proofs.Reckoning.{bits_equal}

module _ (through : Bool) (to by z : ℤ) {b : Bool} (e : b ≡ before to by z) where
  pub due_before : b ≡ true → true ≡ due through to by z
  unfolding due
  due_before f = let h : before to by z ≡ true = sym e ∙ f in rw h refl

  pub due_end : b ≡ false → through ≡ true → {x : Bool} → x ≡ same_int z to → x ≡ due through to by z
  unfolding due
  due_end f g k = let h : before to by z ≡ false = sym e ∙ f in rw (h, g) k

  pub due_past : b ≡ false → through ≡ false → false ≡ due through to by z
  unfolding due
  due_past f g = let h : before to by z ≡ false = sym e ∙ f in rw (h, g) refl

module _ (z by : ℤ) where
  pub steps_to : {x : ℤ} → SFits w32 (z +ℤ by) × (x ≡ z +ℤ by) → some (number x) ≡ stepped z by
  steps_to h = rw (fits_range (z +ℤ by) h.0, h.1) refl

  pub steps_past : (SFits w32 (z +ℤ by) → ⊥) → none ≡ stepped z by
  steps_past h = rw (over_range (z +ℤ by) h) refl

-- ---- the number that a value is

pub an_int : {v : Value} {z : ℤ} → v ≡ Value.Int z → OfInt (meant v) (λ x. z ≡ x)
an_int e = record { is = λ x f. some_one (ap (λ (u : Value). as_int (meant u)) (sym e) ∙ f) }

-- none, so any will do
pub no_int : {v u : Value} {z : ℤ} → v ≡ u → none ≡ as_int (meant u) → OfInt (meant v) (λ x. z ≡ x)
no_int e n = record { is = λ x f. absurd (none_some (n ∙ ap (λ (u : Value). as_int (meant u)) (sym e) ∙ f)) }

zero_same : (x : ℤ) → same_int x (pos 0) ≡ is_zero x
unfolding same_int is_zero
zero_same (pos n) = refl
zero_same (negsuc n) = refl

pub still_is : {v : M.Value} {n : ℤ} → SFits w32 n → OfInt v (λ x. n ≡ x) → OfInt v (λ x. eqb (of_z w32 n) 0 ≡ is_zero x)
still_is {n = n} f g = record { is = λ x i. bits_equal n (pos 0) f zero_fits ∙ zero_same n ∙ ap is_zero (g.is x i) }

module _ {v w : M.Value} {a b : ℤ} (f : OfInt v (λ x. a ≡ x)) (g : OfInt w (λ y. b ≡ y)) where
  both : (P : ℤ → ℤ → Type 0) → P a b → OfInt v (λ x. OfInt w (λ y. P x y))
  both P e = record { is = λ x i. record { is = λ y j. subst (λ (m : ℤ). P x m) (g.is y j) (subst (λ (m : ℤ). P m b) (f.is x i) e) } }

  pub step_is : {r : ℤ} → r ≡ towards a b → OfInt v (λ x. OfInt w (λ y. number r ≡ number (towards x y)))
  step_is {r} e = both (λ x y. number r ≡ number (towards x y)) (ap number e)

  pub next_is : (r : Option Value) → written (option_map meant r) ≡ stepped a b → OfInt v (λ x. OfInt w (λ y. written (option_map meant r) ≡ stepped x y))
  next_is r e = both (λ x y. written (option_map meant r) ≡ stepped x y) e

  pub passes_is : (through : Bool) {u : M.Value} {c : ℤ} → OfInt u (λ n. c ≡ n) → {r : Bool} → r ≡ due through a b c
      → OfInt v (λ x. OfInt w (λ y. OfInt u (λ n. r ≡ due through x y n)))
  passes_is through {u} {c} h {r} e =
      both (λ x y. OfInt u (λ n. r ≡ due through x y n)) (record { is = λ n k. e ∙ ap (λ (m : ℤ). due through a b m) (h.is n k) })
