-- Laws of the status that is due, or 2.
use mathlib.Core.Logic.{inl, inr}
use mathlib.Core.Path.{◌≡◌, subst, ◌∙◌}
use native.Mathlib.Omega.{arith}
use Prim.Native.Nat.{ℕ}
use Rattle.desk.specs.Statuses.{Status, Due}

-- it is a status, if what is due is one
pub is_status : {due r : ℕ} → Status due → Due due r → Status r
is_status h (inl e) = omega arith
is_status h (inr e) = omega arith

-- what is due behind what was due
pub both : {due between r : ℕ} → Due due between → Due between r → Due due r
both (inl a) (inl b) = inl (b ∙ a)
both (inr a) (inl b) = inr (b ∙ a)
both a (inr b) = inr b

-- nothing could be told
pub untold : {due r : ℕ} → r ≡ 2 → Due due r × Status r
untold e = (inr e, is_status {due = 2} (omega arith) (inr e))

pub told_once : {due first r : ℕ} → Status due → first ≡ due → Due first r → Due due r × Status r
told_once {r = r} h e a = (subst (λ d. Due d r) e a, is_status h (subst (λ d. Due d r) e a))

-- what is due, unless the first thing or the second could not be told
pub told_twice : {due first second r : ℕ} → Status due → first ≡ due → Due first second → Due second r → Due due r × Status r
told_twice h e a b = told_once h e (both a b)
