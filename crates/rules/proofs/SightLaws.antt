-- A variable is sought from the last to the first, step by step.
use mathlib.Core.List.{List}
use Rattle.std.specs.Prelude.{None, Some}
use mathlib.Core.Path.{◌≡◌, refl, sym}
use Prim.Native.Nat.{ℕ, suc}
use borrow.Author.Tests.{eq-eqb, ne_eqb}
use Rattle.layout.specs.Table.{variable_name, variable_type}
use Rattle.rules.specs.Sight.{find_variable}

module _ (w : List ℕ) (x : ℕ) {i k : ℕ} (last : i ≡ suc k) where
  -- the last variable is the one, or it is one of those before
  pub variable_here : variable_name w k ≡ x → find_variable w x i ≡ Some (variable_type w k)
  unfolding find_variable
  variable_here e = rw (last, eq-eqb _ _ (sym e)) refl

  -- it is not the last
  pub variable_past : (variable_name w k ≡ x → ⊥) → find_variable w x i ≡ find_variable w x k
  unfolding find_variable
  variable_past h = rw (last, ne_eqb _ _ (λ e. h (sym e))) refl

-- there is none
pub variable_none : (w : List ℕ) (x : ℕ) {i : ℕ} → i ≡ 0 → find_variable w x i ≡ None
unfolding find_variable
variable_none w x over = rw over refl
