-- Digits of stored sheets, byte by byte: what each is worth, and that the bytes told by digits are those of the language.
use borrow.Author.Tests.{lt-ltb, le-ltb}
use mathlib.Core.List.{List, [], ◌∷◌}
use mathlib.Core.Path.{◌≡◌, refl, sym, ap₂}
use native.Mathlib.Omega.{arith}
use Prim.Native.Nat.{ℕ, ◌+◌, ◌-◌, ◌*◌, ◌%◌, ◌≤◌, ◌<◌}
use Rattle.language.proofs.Stored.Hex.{digit_worth}
use Rattle.language.proofs.Stored.Digits as Digits
use Rattle.language.proofs.Stored.Digits.{Digits}
use Rattle.std.specs.Prelude.{Option, Some, None, is_some, unwrap_or}
use Rattle.tokens.specs.Shown.{IsDigit, is_capital, two, told}

-- ---- one digit

module _ (b : ℕ) where
  pub worth_below : b < 48 → digit_worth b ≡ 16
  unfolding digit_worth
  worth_below h = rw (lt-ltb b 48 h) refl

  pub worth_decimal : 48 ≤ b → b ≤ 57 → digit_worth b ≡ b - 48
  unfolding digit_worth
  worth_decimal h k = rw (le-ltb b 48 h, lt-ltb b 58 (omega arith)) refl

  pub worth_between : 57 < b → b < 65 → digit_worth b ≡ 16
  unfolding digit_worth
  worth_between h k = rw (le-ltb b 48 (omega arith), le-ltb b 58 (omega arith), lt-ltb b 65 k) refl

  pub worth_letter : 65 ≤ b → b ≤ 70 → digit_worth b ≡ b - 65 + 10
  unfolding digit_worth
  worth_letter h k = rw (le-ltb b 48 (omega arith), le-ltb b 58 (omega arith), le-ltb b 65 h, lt-ltb b 71 (omega arith)) (omega arith)

  pub worth_above : 70 < b → digit_worth b ≡ 16
  unfolding digit_worth
  worth_above h = rw (le-ltb b 48 (omega arith), le-ltb b 58 (omega arith), le-ltb b 65 (omega arith), le-ltb b 71 (omega arith)) refl

  pub is_digit_capital : (r : Option ℕ) → IsDigit b r → is_some r ≡ is_capital b
  unfolding is_capital
  is_digit_capital None e = rw e refl
  is_digit_capital (Some d) e = rw e.0 (sym (lt-ltb d 16 e.1))

  pub worth_or : (r : Option ℕ) → IsDigit b r → unwrap_or r 16 ≡ digit_worth b
  worth_or None e = sym e
  worth_or (Some d) e = sym e.0

pub ruleset capital_worths = (worth_below, worth_decimal, worth_between, worth_letter, worth_above)

-- ---- two digits

pub two_is : (d e : ℕ) {high low : ℕ} → high ≡ digit_worth d → low ≡ digit_worth e → (high * 16 + low) % 256 ≡ two d e
unfolding two
two_is d e x y = rw (x, y) refl

-- ---- all of a line

-- digits tell what the language says that they show
pub told_shown : (l : List ℕ) → Digits l → told l ≡ Digits.shown l
unfolding told two Digits.shown
told_shown [] h = refl
told_shown (d ∷ []) h = refl
told_shown (d ∷ e ∷ l) h =
    let x : (digit_worth d * 16 + digit_worth e) % 256 ≡ digit_worth d * 16 + digit_worth e = omega (arith, h.0, h.1.0) in
    ap₂ (λ (b : ℕ) (s : List ℕ). b ∷ s) x (told_shown l h.1.1)
