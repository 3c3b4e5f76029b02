-- Two whole numbers that are floats with nothing lost, divided once: the result is their fraction, rounded once, and where it
-- comes out even it is the whole number itself.
use mathlib.Core.Path.{◌≡◌, sym, ◌∙◌, subst}
use mathlib.Core.Bool.{false}
use Prim.Native.Nat.{ℕ, ◌*◌, ◌^◌, ◌≤◌, ◌<◌}
use native.Mathlib.Nat.{mul-one, mul-pos, mul_assoc, mul_comm, mul_left_comm}
use native.Mathlib.Omega.{arith}
use lib.Dec.{eqb}
use lib.IntN.{pos}
use lib.Ieee.{Float, nan, inf, fin, Format, prec, up, down, round, div, of_int}
use lib.Ieee.Exact.{HasValue}
use lib.Ieee.Back.{round_whole}
use lib.Ieee.Fits.{down_pos}
use lib.Ieee.Scale.{round_same}
use lib.Ieee.Positive.{first_pos}
use borrow.Author.Tests.{ne_eqb}

module _ (f : Format) where
  -- a whole number of as many binary digits as the format has is a float with nothing lost
  pub exact : (n : ℕ) → n ≤ 2 ^ prec f → HasValue (of_int f (pos n)) false n 1
  unfolding of_int
  exact n h = round_whole f false n h

  crossed : (m n e d a b : ℕ) → m ≡ a * e → n ≡ b * d → m * d * b ≡ a * (n * e)
  crossed m n e d a b p q = rw (p, q) (simp (mul_assoc, mul_comm, mul_left_comm))

  some : (n : ℕ) → 0 < n → eqb n 0 ≡ false
  some n h = ne_eqb n 0 (λ e. omega arith)

  quotient : (x y : Float) (a b : ℕ) → 0 < b → HasValue x false a 1 → HasValue y false b 1 → div f x y ≡ round f false a b
  unfolding div
  quotient nan y a b p g h = absurd g
  quotient (inf s) y a b p g h = absurd g
  quotient (fin s m e) nan a b p g h = absurd h
  quotient (fin s m e) (inf t) a b p g h = absurd h
  quotient (fin s m e) (fin t n d) a b p g h =
      let over : m * up e ≡ a * down e = sym (mul-one (m * up e)) ∙ g.1 in
      let under : n * up d ≡ b * down d = sym (mul-one (n * up d)) ∙ h.1 in
      let there : 0 < n * up d = subst (λ (z : ℕ). 0 < z) (sym under) (mul-pos p (down_pos d)) in
      rw (g.0, h.0, some n (first_pos n (up d) there))
      (round_same f false (m * up e * down d) (n * up d * down e) a b (mul-pos there (down_pos e)) p
      (crossed (m * up e) (n * up d) (down e) (down d) a b over under))

  -- the fraction, rounded once
  pub divided_once : (a b : ℕ) → 0 < b → a ≤ 2 ^ prec f → b ≤ 2 ^ prec f → div f (of_int f (pos a)) (of_int f (pos b)) ≡ round f false a b
  divided_once a b p g h = quotient (of_int f (pos a)) (of_int f (pos b)) a b p (exact a g) (exact b h)

  -- where it comes out even
  pub divided_even : (w d : ℕ) → 0 < d → w * d ≤ 2 ^ prec f → d ≤ 2 ^ prec f → div f (of_int f (pos (w * d))) (of_int f (pos d)) ≡ of_int f (pos w)
  unfolding of_int
  divided_even w d p g h = divided_once (w * d) d p g h ∙ round_same f false (w * d) d w 1 p (omega arith) (mul-one (w * d))
