-- The last digits of a number, put one by one from the last on.
use borrow.Author.Tests.{lt-ltb}
use lib.ListN.{length, set, drop, length-set}
use lib.Seq.{drop-length}
use mathlib.Core.List.{List, [], ◌∷◌, ◌++◌, append_assoc, append-nil}
use mathlib.Core.Path.{◌≡◌, refl, sym, ◌∙◌}
use native.Mathlib.Nat.{le_of_suc-le-suc}
use native.Mathlib.Omega.{arith}
use Prim.Native.Nat.{ℕ, zero, suc, ◌+◌, ◌/◌, ◌%◌, ◌-◌, ◌<◌, ◌≤◌}
use Rattle.io.specs.Digits.{last_digits}

-- the digits still to put, and behind them those that are put, are the number's
pub record Padded (k n : ℕ) (i left : ℕ) (digits : List ℕ) : Type 0 where
  pub room : length digits ≡ k
  pub whole : last_digits 10 i left ++ drop i digits ≡ last_digits 10 k n

drop-set : (t : List ℕ) (j d : ℕ) → j < length t → drop j (set t j d) ≡ d ∷ drop (suc j) t
drop-set [] j d h = absurd (omega arith)
drop-set (x ∷ t) zero d h = refl
drop-set (x ∷ t) (suc j) d h = drop-set t j d (le_of_suc-le-suc h)

module _ {k n : ℕ} where
  -- no digit is put
  pub padded_none : (t : List ℕ) → length t ≡ k → Padded k n k n t
  padded_none t e =
      record { room = e; whole = rw (← e, drop-length t) (append-nil (last_digits 10 (length t) n)) }

  -- one more digit is put
  pub padded_more : {i left : ℕ} {t : List ℕ} → 0 < i → i ≤ k → Padded k n i left t
      → Padded k n (i - 1) (left / 10) (set t (i - 1) (48 + left % 10))
  padded_more {i = zero} h few g = absurd (omega arith)
  padded_more {i = suc j} {left} {t} h few g =
      record { room = length-set t (suc j - 1) (48 + left % 10) ∙ g.room; whole = step ∙ g.whole }
    where
      less : suc j - 1 ≡ j
      less = omega arith

      small : left % 10 < 10
      small = omega arith

      step : last_digits 10 (suc j - 1) (left / 10) ++ drop (suc j - 1) (set t (suc j - 1) (48 + left % 10))
          ≡ last_digits 10 (suc j) left ++ drop (suc j) t
      step =
          rw (less, drop-set t j (48 + left % 10) (omega (arith, g.room)), lt-ltb (left % 10) 10 small)
          (sym (append_assoc (last_digits 10 j (left / 10)) _ _))

  -- all are put
  pub padded_all : {i left : ℕ} {t : List ℕ} → i ≤ 0 → Padded k n i left t → t ≡ last_digits 10 k n
  padded_all {i = zero} h g = g.whole
  padded_all {i = suc i} h g = absurd (omega arith)
