-- A word gone over digit by digit: what is left of it decides whether it is a number.
use lib.ListN.{length, get_or}
use mathlib.Core.Bool.{Bool, true, false, ◌&&◌}
use mathlib.Core.List.{List, [], ◌∷◌}
use mathlib.Core.Path.{◌≡◌, refl, sym, ◌∙◌}
use native.Mathlib.Omega.{arith}
use Prim.Native.Nat.{ℕ, zero, suc, ◌<◌}
use Rattle.language.specs.Text.{is_digit, between}
use Rattle.std.specs.Bool.{MatchBool}
use Rattle.std.specs.Char.{is_ascii_digit}
use Rattle.std.specs.List.{AllWithin, HoldsAt}
use Rattle.page.specs.Amounts.{all_digits, is_number}

-- no byte, no number
pub empty_word : (w : List ℕ) → length w ≡ 0 → false ≡ is_number w
unfolding is_number
empty_word [] h = refl
empty_word (b ∷ t) h = absurd (omega arith)

-- a digit as the library tells it
digit_is : (b : ℕ) → is_ascii_digit b ≡ is_digit b
unfolding is_digit between
digit_is b = refl

each_digit : (w : List ℕ) → ((k : ℕ) → k < length w → is_ascii_digit (get_or w k 0) ≡ true) → all_digits w ≡ true
unfolding all_digits
each_digit [] h = refl
each_digit (b ∷ w) h = rw (← digit_is b, h 0 (omega arith)) (each_digit w (λ k l. h (suc k) (omega arith)))

no_digit : (w : List ℕ) (k : ℕ) → k < length w → is_ascii_digit (get_or w k 0) ≡ false → all_digits w ≡ false
unfolding all_digits
no_digit [] k h e = absurd (omega arith)
no_digit (b ∷ w) zero h e = rw (← digit_is b, e)
no_digit (b ∷ w) (suc k) h e = rw (no_digit w k (omega arith) e) (second (is_digit b))
  where
    second : (x : Bool) → (x && false) ≡ false
    second true = refl
    second false = refl

numbered : (w : List ℕ) → (length w ≡ 0 → ⊥) → all_digits w ≡ is_number w
unfolding is_number
numbered [] h = absurd (h refl)
numbered (b ∷ w) h = refl

-- what `all` tells of its digits
pub told : (w : List ℕ) (r : Bool) → (length w ≡ 0 → ⊥)
    → MatchBool r (AllWithin (λ b. is_ascii_digit b ≡ true) w 0 (length w))
    ((k : ℕ) × (k < length w) × HoldsAt (λ b. is_ascii_digit b ≡ false) w k)
    → r ≡ is_number w
told w true h g = sym (each_digit w (λ k l. g k 0 (omega arith) l)) ∙ numbered w h
told w false h g = sym (no_digit w g.0 g.1 (g.2 0)) ∙ numbered w h
