-- A part of two sheets that are joined, where all of it lies in one of them.
use lib.ListN.{length, take, drop}
use lib.Seq.{slice, take_all, take-append-le, take-append-add, drop-append-add}
use mathlib.Core.List.{List, [], ◌∷◌}
use mathlib.Core.Path.{◌≡◌, refl, sym, ap, ap₂, ◌∙◌}
use native.Mathlib.Omega.{arith}
use Prim.Native.Nat.{ℕ, zero, suc, ◌+◌, ◌-◌, ◌≤◌, ◌<◌}
use Rattle.language.specs.Pairs.{joined}

-- so many bytes from a place on
taken : (a b : ℕ) (l : List ℕ) → take (b - a) (drop a l) ≡ slice a b l
taken zero b l = let e : b - 0 ≡ b = omega arith in rw e refl
taken (suc a) zero l = let e : 0 - suc a ≡ 0 = omega arith in rw e refl
taken (suc a) (suc b) [] = take_all (suc b - suc a) [] (omega arith)
taken (suc a) (suc b) (x ∷ l) = let e : suc b - suc a ≡ b - a = omega arith in rw e (taken a b l)

module _ (first second : List ℕ) (a b : ℕ) where
  pub in_first : b ≤ length first → take (b - a) (drop a first) ≡ slice a b (joined first second)
  in_first h = taken a b first ∙ ap (drop a) (sym (take-append-le b first (10 ∷ second) h))

  -- behind the LF
  pub in_second : a ≤ b → length first < a
      → take (b - length first - 1 - (a - length first - 1)) (drop (a - length first - 1) second) ≡ slice a b (joined first second)
  in_second o h =
      let m = a - length first - 1 in
      let n = b - length first - 1 in
      let from : a ≡ length first + suc m = omega arith in
      let to : b ≡ length first + suc n = omega arith in
      taken m n second
      ∙ sym
      (ap₂ (λ (a b : ℕ). slice a b (joined first second)) from to
      ∙ ap (drop (length first + suc m)) (take-append-add first (10 ∷ second) (suc n))
      ∙ drop-append-add first (take (suc n) (10 ∷ second)) (suc m))
