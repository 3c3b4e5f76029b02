-- A float number read byte by byte: what its digits write so far, and how many of them stand behind its point.
use borrow.Author.Tests.{eq-eqb, ne_eqb}
use lib.Dec.{T, eqb, lit<, lit≤, le→leb}
use lib.IntN.{pos}
use lib.Ieee.{binary64, in_float, to_bits, div, of_int}
use lib.ListN.{length, take, drop}
use lib.Seq.{slice, slice-cons, slice_empty, length-slice, take-suc, length-take-le, drop-append-le}
use mathlib.Core.Bool.{true}
use mathlib.Core.List.{List, [], ◌∷◌, ◌++◌}
use mathlib.Core.Logic.{⊎_elim}
use mathlib.Core.Path.{◌≡◌, refl, sym, ◌∙◌, ap, subst}
use native.Mathlib.Nat.{pow-suc, pow-le-pow_right, le_trans}
use native.Mathlib.Numerals.{add-one}
use native.Mathlib.Omega.{arith}
use Prim.Native.Nat.{ℕ, zero, suc, ◌+◌, ◌*◌, ◌-◌, ◌^◌, ◌≤◌, ◌<◌}
use Rattle.language.proofs.Text.Choices.{outcome}
use Rattle.language.proofs.Text.Classes.{digit_bounds, point_no_digit}
use Rattle.language.specs.Decimals.{digits_from, behind_point, float_of}
use Rattle.language.specs.Sizes.{DIGITS}
use Rattle.language.specs.Text.{byte, is_digit}
use Rattle.language.specs.Tokens.{Spelling}
use Rattle.layout.specs.Names.{float_bits}
use Rattle.tokens.specs.Found.{Decimal}

-- ---- powers of ten

pub ten_more : (n : ℕ) → 10 ^ (n + 1) ≡ 10 ^ n * 10
ten_more n = rw add-one (pow-suc 10 n)

-- none for as many digits as there may be is too large
pub tens : (n : ℕ) → n ≤ DIGITS → 10 ^ n ≤ 10 ^ DIGITS
tens n h = pow-le-pow_right (lit< tt) h

-- and no whole number up to that loses anything as a float
pub exact : (n : ℕ) → n ≤ 10 ^ DIGITS → T (in_float binary64 (pos n))
unfolding in_float
exact n h = le→leb n _ (le_trans h (lit≤ tt))

-- ---- one byte more

digits_append : (n : ℕ) (s u : Spelling) → digits_from n (s ++ u) ≡ digits_from (digits_from n s) u
unfolding digits_from
digits_append n [] u = refl
digits_append n (b ∷ s) u =
    ⊎_elim (λ e. rw e (digits_append n s u)) (λ e. rw e (digits_append (n * 10 + (b - 48)) s u)) (outcome (eqb b 46))

module _ (t : List ℕ) (p i : ℕ) (o : p ≤ i) (h : i < length t) where
  longer : slice p (i + 1) t ≡ slice p i t ++ (byte t i ∷ [])
  longer =
      let l = length-take-le i t (omega arith) in
      rw (add-one i) (ap (λ (s : List ℕ). drop p s) (take-suc t i 0 h) ∙ drop-append-le p (take i t) (byte t i ∷ []) (omega arith))

  digits_more : is_digit (byte t i) ≡ true → digits_from 0 (slice p (i + 1) t) ≡ digits_from 0 (slice p i t) * 10 + (byte t i - 48)
  unfolding digits_from
  digits_more d =
      let e = ne_eqb (byte t i) 46 (λ x. point_no_digit (byte t i) x d) in
      ap (digits_from 0) longer ∙ digits_append 0 (slice p i t) (byte t i ∷ []) ∙ rw e

  digits_past : byte t i ≡ 46 → digits_from 0 (slice p (i + 1) t) ≡ digits_from 0 (slice p i t)
  unfolding digits_from
  digits_past x =
      let e = eq-eqb (byte t i) 46 x in
      ap (digits_from 0) longer ∙ digits_append 0 (slice p i t) (byte t i ∷ []) ∙ rw e

-- ---- a float number from p up to q, with its point at m

-- among its bytes up to i are this many digits, and they write v
pub record Read (t : List ℕ) (p m q i v : ℕ) : Type 0 where
  pub order : p ≤ i
  pub inside : i ≤ q
  pub value : v ≡ digits_from 0 (slice p i t)
  pub many : ℕ
  pub within : many + p ≤ i
  pub past : m < i → many + p < i
  pub below : v < 10 ^ many

module _ {t : List ℕ} {p m q : ℕ} (x : Decimal t p m q) where
  -- at first none is read
  pub read_none : Read t p m q p 0
  unfolding digits_from
  read_none =
      let a = x.before in
      let b = x.behind in
      record {
        order = omega arith;
        inside = omega arith;
        value = rw (slice_empty p t);
        many = 0;
        within = omega arith;
        past = λ l. omega arith;
        below = lit< tt;
      }

  module _ {i v : ℕ} (r : Read t p m q i v) where
    -- where none is left the number is read
    pub read_all : q ≤ i → (v ≡ digits_from 0 (slice p q t)) × (v ≤ 10 ^ DIGITS)
    read_all h =
        let z : i ≡ q = omega (arith, r.inside) in
        let l = tens r.many (omega (arith, r.past (omega (arith, x.behind)), x.few)) in
        (subst (λ (n : ℕ). v ≡ digits_from 0 (slice p n t)) z r.value, omega (arith, r.below))

    module _ (h : i < q) where
      -- before that it is small
      pub read_small : v < 10 ^ DIGITS
      read_small =
          let l = tens r.many (omega (arith, r.within, x.few)) in
          omega (arith, r.below)

      -- the point is passed over
      pub read_past : i ≡ m → Read t p m q (i + 1) v
      read_past e =
          record {
            order = omega (arith, r.order);
            inside = omega arith;
            value = r.value ∙ sym (digits_past t p i r.order (omega (arith, x.inside)) (ap (byte t) e ∙ x.point));
            many = r.many;
            within = omega (arith, r.within);
            past = λ l. omega (arith, r.within);
            below = r.below;
          }

      -- every other byte b is a digit
      module _ {b : ℕ} (f : b ≡ byte t i) (n : i ≡ m → ⊥) where
        pub read_digit : (48 ≤ b) × (b ≤ 57)
        read_digit = let z = digit_bounds (byte t i) (x.digits i r.order h n) in (omega arith, omega arith)

        pub read_more : Read t p m q (i + 1) (v * 10 + (b - 48))
        read_more =
            let d = read_digit in
            let e = digits_more t p i r.order (omega (arith, x.inside)) (x.digits i r.order h n) in
            record {
              order = omega (arith, r.order);
              inside = omega arith;
              value = ap (λ (k : ℕ). k * 10 + (b - 48)) r.value ∙ ap (λ (k : ℕ). digits_from 0 (slice p i t) * 10 + (k - 48)) f ∙ sym e;
              many = r.many + 1;
              within = omega (arith, r.within);
              past = λ l. omega (arith, r.past (omega arith));
              below = rw (ten_more r.many) (omega (arith, r.below));
            }

  behind : (n i : ℕ) → p ≤ i → i + n ≡ m → behind_point (slice i q t) ≡ q - (m + 1)
  unfolding behind_point
  behind zero i o z =
      let e : i ≡ m = omega arith in
      let a = eq-eqb (byte t i) 46 (ap (byte t) e ∙ x.point) in
      rw (slice-cons i q t 0 (omega (arith, x.behind)) x.inside, a) (length-slice (suc i) q t x.inside ∙ omega arith)
  behind (suc n) i o z =
      let d = x.digits i o (omega (arith, x.behind)) (λ e. omega arith) in
      let a = ne_eqb (byte t i) 46 (λ e. point_no_digit (byte t i) e d) in
      rw (slice-cons i q t 0 (omega (arith, x.behind)) x.inside, a) (behind n (suc i) (omega arith) (omega arith))

  pub power_exact : {power : ℕ} → power ≡ 10 ^ (q - (m + 1)) → T (in_float binary64 (pos power))
  power_exact {power} e = exact power (omega (arith, tens (q - (m + 1)) (omega (arith, x.before, x.few))))

  -- what it is worth: all its digits over the power of ten for those behind the point
  pub divided : {all power : ℕ} → all ≡ digits_from 0 (slice p q t) → power ≡ 10 ^ (q - (m + 1))
      → to_bits binary64 (div binary64 (of_int binary64 (pos all)) (of_int binary64 (pos power))) ≡ float_bits (slice p q t)
  unfolding float_bits float_of
  divided e f =
      let a = behind (m - p) p (omega arith) (omega (arith, x.before)) in
      rw (e, f, a)
