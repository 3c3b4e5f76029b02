-- The number that digits write, read one digit after the other.
use lib.ListN.{length, take, drop, take-append-drop}
use lib.Seq.{slice, slice-cons, slice_empty, length-take-le, take-take, drop-append-le}
use mathlib.Core.List.{List, [], ◌∷◌, ◌++◌}
use mathlib.Core.Path.{◌≡◌, refl, sym, ◌∙◌, ap}
use native.Mathlib.Nat.{mul-le-mul_left}
use native.Mathlib.Numerals.{add-one}
use native.Mathlib.Omega.{arith}
use Prim.Native.Nat.{ℕ, suc, ◌+◌, ◌*◌, ◌≤◌, ◌<◌}
use Rattle.language.specs.Text.{byte, worth, number_from}
use Rattle.language.specs.Tokens.{Spelling}

-- digits read on from a number give no smaller one
pub number_least : (base n : ℕ) (s : Spelling) → 0 < base → n ≤ number_from base n s
unfolding number_from
number_least base n [] h = omega arith
number_least base n (d ∷ s) h = omega (arith, number_least base (n * base + worth d) s h, mul-le-mul_left n h)

-- digits are read on from the number of those before
pub number_append : (base n : ℕ) (s u : Spelling) → number_from base n (s ++ u) ≡ number_from base (number_from base n s) u
unfolding number_from
number_append base n [] u = refl
number_append base n (d ∷ s) u = number_append base (n * base + worth d) s u

module _ (t : List ℕ) (p i : ℕ) where
  -- a slice in two parts
  slice_split : (q : ℕ) → p ≤ i → i ≤ q → q ≤ length t → slice p q t ≡ slice p i t ++ slice i q t
  slice_split q o h l =
      let m : length (take i t) ≡ i = length-take-le i t (omega arith) in
      let e : take q t ≡ take i t ++ slice i q t = sym (take-append-drop i (take q t)) ∙ ap (λ x. x ++ slice i q t) (take-take i q t h) in
      ap (λ x. drop p x) e ∙ drop-append-le p (take i t) (slice i q t) (omega arith)

  slice_one : i < length t → slice i (i + 1) t ≡ byte t i ∷ []
  slice_one h = rw (add-one i, slice-cons i (suc i) t 0 (omega arith) (omega arith), slice_empty (suc i) t)

module _ (base : ℕ) (t : List ℕ) (p i : ℕ) where
  -- no digit is read at first
  pub number_none : (n : ℕ) → number_from base n (slice p p t) ≡ n
  unfolding number_from
  number_none n = rw (slice_empty p t)

  -- one digit more
  pub number_more : (n : ℕ) → p ≤ i → i < length t
      → number_from base n (slice p (i + 1) t) ≡ number_from base n (slice p i t) * base + worth (byte t i)
  unfolding number_from
  number_more n o h =
      rw (slice_split t p i (i + 1) o (omega arith) (omega arith), slice_one t p i h, number_append base n (slice p i t) (byte t i ∷ []))

  -- fewer digits write no larger number
  pub number_grows : (n q : ℕ) → 0 < base → p ≤ i → i ≤ q → q ≤ length t
      → number_from base n (slice p i t) ≤ number_from base n (slice p q t)
  number_grows n q b o h l =
      rw (slice_split t p i q o h l, number_append base n (slice p i t) (slice i q t))
      (number_least base (number_from base n (slice p i t)) (slice i q t) b)

  -- the first digit, and the rest read on from it
  pub number_first : (n : ℕ) → p < i → i ≤ length t
      → number_from base n (slice p i t) ≡ number_from base (n * base + worth (byte t p)) (slice (p + 1) i t)
  unfolding number_from
  number_first n o h = rw (slice-cons p i t 0 o h, add-one p)
