-- What a float number is worth (R08.3): its digits' whole number over the power of ten for those behind the point, rounded once;
-- exactly the whole number before the point where only zeros stand behind it; and always one of the floats of 64 bits.
use mathlib.Core.Path.{◌≡◌, refl, sym, ap, subst, ◌∙◌}
use mathlib.Core.Bool.{true, false}
use mathlib.Core.List.{[], ◌∷◌, ◌++◌}
use Prim.Native.Nat.{ℕ, zero, suc, ◌+◌, ◌-◌, ◌*◌, ◌^◌, ◌≤◌, ◌<◌}
use native.Mathlib.Nat.{pow-suc, pow-succ', pow-le-pow_right, one-le-pow, le_trans, le_of_lt, mul_assoc, mul-one, add-zero, zero-add, mul-lt-mul_of_pos_right}
use native.Mathlib.Numerals.{add-one}
use native.Mathlib.Omega.{arith}
use borrow.Author.Tests.{ne_eqb}
use lib.Dec.{T, lit<, lit≤, eqb}
use lib.IntN.{pos}
use lib.Ieee.{Float, binary64, round, of_int, fits}
use lib.Ieee.Exact.{HasValue}
use lib.Ieee.Fits.{div-fits}
use lib.ListN.{length, replicate, length-replicate}
use lib.Pow.{pow-add}
use Rattle.language.specs.Sizes.{DIGITS}
use Rattle.language.specs.Tokens.{Spelling}
use Rattle.language.specs.Text.{is_digit}
use Rattle.language.specs.Decimals.{digits_from, behind_point, float_of}
use Rattle.language.proofs.Text.Classes.{digit_bounds}
use Rattle.language.proofs.Text.Fractions.{exact, divided_once, divided_even}

-- digits alone
pub data Digits : Spelling → Type 0 where
  no_digit : Digits []
  a_digit : {d : ℕ} {s : Spelling} → is_digit d ≡ true → Digits s → Digits (d ∷ s)

not_point : (d : ℕ) → is_digit d ≡ true → eqb d 46 ≡ false
not_point d h = ne_eqb d 46 (λ e. let b = digit_bounds d h in omega arith)

-- the digits behind others are read on from their number, whether or not a point stands between
read_on : (n : ℕ) (s u : Spelling) → Digits s → digits_from n (s ++ u) ≡ digits_from (digits_from n s) u
unfolding digits_from
read_on n [] u no_digit = refl
read_on n (d ∷ s) u (a_digit h k) = rw (not_point d h) (read_on (n * 10 + (d - 48)) s u k)

past_point : (n : ℕ) (u : Spelling) → digits_from n (46 ∷ u) ≡ digits_from n u
unfolding digits_from
past_point n u = refl

behind : (s u : Spelling) → Digits s → behind_point (s ++ (46 ∷ u)) ≡ length u
unfolding behind_point
behind [] u no_digit = refl
behind (d ∷ s) u (a_digit h k) = rw (not_point d h) (behind s u k)

-- zeros multiply by ten
zeros : (n k : ℕ) → digits_from n (replicate k 48) ≡ n * 10 ^ k
unfolding digits_from
zeros n zero = sym (mul-one n)
zeros n (suc k) =
    zeros (n * 10 + 0) k ∙ ap (λ (x : ℕ). x * 10 ^ k) (add-zero (n * 10)) ∙ mul_assoc n 10 (10 ^ k) ∙ ap (λ (x : ℕ). n * x) (sym (pow-succ' 10 k))

-- a number has as many digits as were read
one_more : (n d i : ℕ) → n < 10 ^ i → d ≤ 57 → n * 10 + (d - 48) < 10 ^ (i + 1)
one_more n d i h l = let e : 10 ^ (i + 1) ≡ 10 ^ i * 10 = rw add-one (pow-suc 10 i) in rw e (omega arith)

below : (n i : ℕ) (s : Spelling) → Digits s → n < 10 ^ i → digits_from n s < 10 ^ (i + length s)
unfolding digits_from
below n i [] no_digit h = rw add-zero h
below n i (d ∷ s) (a_digit k r) h =
    let e : i + 1 + length s ≡ i + suc (length s) = omega arith in
    rw (not_point d k) (subst (λ (x : ℕ). digits_from (n * 10 + (d - 48)) s < 10 ^ x) e
    (below (n * 10 + (d - 48)) (i + 1) s r (one_more n d i h (digit_bounds d k).1)))

ten_pos : (k : ℕ) → 0 < 10 ^ k
ten_pos k = one-le-pow k 10 (lit< tt)

-- as many digits as there may be write a number that is a float with nothing lost
small : (n k : ℕ) → k ≤ DIGITS → n ≤ 10 ^ k → n ≤ 2 ^ 53
small n k l h = le_trans h (le_trans (pow-le-pow_right (lit< tt) l) (lit≤ tt))

module _ (b a : Spelling) (front : Digits b) (back : Digits a) (few : length b + length a ≤ DIGITS) where
  abbrev pub whole : ℕ
  whole = digits_from 0 (b ++ a)

  spelled_whole : digits_from 0 (b ++ (46 ∷ a)) ≡ whole
  spelled_whole = read_on 0 b (46 ∷ a) front ∙ past_point (digits_from 0 b) a ∙ sym (read_on 0 b a front)

  whole_small : whole ≤ 2 ^ 53
  whole_small =
      let f : digits_from 0 b < 10 ^ length b = rw zero-add at (below 0 0 b front (lit< tt)) in
      small whole (length b + length a) few (rw (read_on 0 b a front) (le_of_lt (below (digits_from 0 b) (length b) a back f)))

  -- its digits over the power of ten, rounded once
  pub rounded_once : float_of (b ++ (46 ∷ a)) ≡ round binary64 false whole (10 ^ length a)
  unfolding float_of
  rounded_once =
      rw (spelled_whole, behind b a front)
      (divided_once binary64 whole (10 ^ length a) (ten_pos (length a)) whole_small
      (small (10 ^ length a) (length a) (omega arith) (omega arith)))

-- `12.`, `12.0` and `12.000` are what 12 is as a float
pub whole_valued : (b : Spelling) (k : ℕ) → Digits b → length b + k ≤ DIGITS
    → float_of (b ++ (46 ∷ replicate k 48)) ≡ of_int binary64 (pos (digits_from 0 b))
unfolding float_of
whole_valued b k front few =
    let n = digits_from 0 b in
    let f : n < 10 ^ length b = rw zero-add at (below 0 0 b front (lit< tt)) in
    let g : n * 10 ^ k ≤ 10 ^ (length b + k) = rw (pow-add 10 (length b) k) (le_of_lt (mul-lt-mul_of_pos_right f (ten_pos k))) in
    let e : digits_from 0 (b ++ (46 ∷ replicate k 48)) ≡ n * 10 ^ k =
    read_on 0 b (46 ∷ replicate k 48) front ∙ past_point n (replicate k 48) ∙ zeros n k in
    let l : behind_point (b ++ (46 ∷ replicate k 48)) ≡ k = behind b (replicate k 48) front ∙ length-replicate {A = ℕ} k 48 in
    rw (e, l)
    (divided_even binary64 n (10 ^ k) (ten_pos k) (small (n * 10 ^ k) (length b + k) few g) (small (10 ^ k) k (omega arith) (omega arith)))

-- and that is 12, with nothing lost: finite, not negative, and twelve over one in size
pub whole_exact : (b : Spelling) (k : ℕ) → Digits b → length b + k ≤ DIGITS → HasValue (float_of (b ++ (46 ∷ replicate k 48))) false (digits_from 0 b) 1
whole_exact b k front few =
    let n = digits_from 0 b in
    let f : n < 10 ^ length b = rw zero-add at (below 0 0 b front (lit< tt)) in
    subst (λ (x : Float). HasValue x false n 1) (sym (whole_valued b k front few)) (exact binary64 n (small n (length b) (omega arith) (le_of_lt f)))

-- whatever the spelling, it is a float of 64 bits
pub float_fits : (s : Spelling) → T (fits binary64 (float_of s))
unfolding float_of
float_fits s = div-fits binary64 (of_int binary64 (pos (digits_from 0 s))) (of_int binary64 (pos (10 ^ behind_point s)))
