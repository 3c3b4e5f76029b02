-- The fewest digits that hold a number are as many as it has places.
use borrow.Author.Tests.{ltb-true, ltb-false}
use lib.Dec.{ltb}
use mathlib.Core.Bool.{Bool, true, false, cond}
use mathlib.Core.List.{List}
use mathlib.Core.Path.{◌≡◌, refl, ◌∙◌, ap}
use native.Mathlib.Nat.{pow-suc, pow-succ', one-le-pow, div-lt_iff_lt-mul, le-div_iff_mul-le, div-lt_self}
use native.Mathlib.Omega.{arith}
use Prim.Native.Nat.{ℕ, zero, suc, ◌-◌, ◌*◌, ◌/◌, ◌^◌, ◌≤◌, ◌<◌}
use Rattle.io.specs.Digits.{last_digits, IsDigitCount}
use Rattle.page.specs.Text.{places, decimal_of}

-- a number below ten has one
one_place : (n r : ℕ) → n < 10 → IsDigitCount 10 1 n r → r ≡ 1
one_place n zero h f = absurd (omega (arith, f.0))
one_place n (suc zero) h f = refl
one_place n (suc (suc k)) h f =
    let e : suc (suc k) - 1 ≡ suc k = omega arith in
    let large : 10 ^ suc k ≤ n = rw e at (f.2 (omega arith)) in
    absurd (omega (arith, large, pow-succ' 10 k, one-le-pow k 10 (omega arith)))

-- the digits before the last hold a tenth of it
fewer : (n r : ℕ) → IsDigitCount 10 1 n (suc (suc r)) → IsDigitCount 10 1 (n / 10) (suc r)
fewer n r f =
    let small : n < 10 ^ suc r * 10 = rw (← pow-suc 10 (suc r)) f.1 in
    let e : suc (suc r) - 1 ≡ suc r = omega arith in
    let d : suc r - 1 ≡ r = omega arith in
    let large : 10 ^ suc r ≤ n = rw e at (f.2 (omega arith)) in
    let tenth : 10 ^ r * 10 ≤ n = rw (← pow-suc 10 r) large in
    (omega arith, (div-lt_iff_lt-mul {k = 10} (omega arith)).1 small, λ h. rw d ((le-div_iff_mul-le {k = 10} (omega arith)).1 tenth))

step : (k : ℕ) → ((n r : ℕ) → n ≤ k → IsDigitCount 10 1 n r → r ≡ places k n) → (n r : ℕ) → n ≤ suc k → IsDigitCount 10 1 n r → (q : Bool)
    → ltb n 10 ≡ q → r ≡ cond q 1 (suc (places k (n / 10)))
step k ih n r h f true e = one_place n r (ltb-true n 10 e) f
step k ih n zero h f false e = absurd (omega (arith, f.0))
step k ih n (suc zero) h f false e = absurd (omega (arith, f.1, ltb-false n 10 e))
step k ih n (suc (suc r)) h f false e =
    let l : 10 ≤ n = ltb-false n 10 e in
    ap suc (ih (n / 10) (suc r) (omega (arith, div-lt_self {n = n} {k = 10} (omega arith) (omega arith))) (fewer n r f))

counted : (k n r : ℕ) → n ≤ k → IsDigitCount 10 1 n r → r ≡ places k n
unfolding places
counted zero n r h f = one_place n r (omega arith) f
counted (suc k) n r h f = step k (counted k) n r h f (ltb n 10) refl

-- the digits that were found are the number's
pub decimals : {n r : ℕ} {t : List ℕ} → IsDigitCount 10 1 n r → t ≡ last_digits 10 r n → t ≡ decimal_of n
unfolding decimal_of
decimals {n} {r} f e = e ∙ ap (λ (k : ℕ). last_digits 10 k n) (counted n n r (omega arith) f)
