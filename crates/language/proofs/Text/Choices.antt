-- Small laws on tests and their two outcomes, which the proofs on texts share.
use mathlib.Core.Bool.{Bool, true, false, ◌&&◌, ◌||◌, false≢true}
use mathlib.Core.Logic.{◌⊎◌, inl, inr}
use mathlib.Core.Path.{◌≡◌, refl, sym, ◌∙◌}
use native.Mathlib.Decide.{dec_lt}
use native.Mathlib.Omega.{arith}
use Prim.Native.Nat.{ℕ, ◌≤◌, ◌<◌}

-- of two numbers the first is less, or the second is not more
pub either : (a b : ℕ) → (a < b) ⊎ (b ≤ a)
either a b = go (dec_lt a b)
  where
    go : Dec (a < b) → (a < b) ⊎ (b ≤ a)
    go (yes h) = inl h
    go (no h) = inr (omega arith)

-- a test passes or fails
pub outcome : (x : Bool) → (x ≡ true) ⊎ (x ≡ false)
outcome true = inl refl
outcome false = inr refl

-- a test does not both pass and fail
pub clash : {x : Bool} → x ≡ true → x ≡ false → ⊥
clash a b = false≢true (sym b ∙ a)

-- where both tests pass, so does each
pub and_both : (x y : Bool) → (x && y) ≡ true → (x ≡ true) × (y ≡ true)
and_both true y e = (refl, e)
and_both false y e = absurd (false≢true e)

-- where one of two tests passes, the first does or the second
pub or_either : (x y : Bool) → (x || y) ≡ true → (x ≡ true) ⊎ (y ≡ true)
or_either true y e = inl refl
or_either false y e = inr e

-- where the second passes, one does
pub or_true : (x : Bool) {y : Bool} → y ≡ true → (x || y) ≡ true
or_true true e = refl
or_true false e = e

-- what holds in both outcomes of a test holds of the choice by it
pub choose : {A : Type 0} (P : A → Type 0) (x : Bool) (a b : A) → (x ≡ true → P a) → (x ≡ false → P b)
    → P (elim x [ true ↦ a | false ↦ b ])
choose P true a b f g = f refl
choose P false a b f g = g refl
