-- Where the bytes of each class lie, and that a byte is of at most one of the classes blank, letter and digit.
use mathlib.Core.Bool.{true, false, ◌||◌, ◌&&◌}
use mathlib.Core.Logic.{⊎_elim, ◌⊎◌, inl, inr}
use mathlib.Core.Path.{◌≡◌, sym, ◌∙◌, ap}
use native.Mathlib.Omega.{arith}
use borrow.Author.Tests.{ne_eqb, eqb-true, leb-true, le-leb, lt-leb, lt-ltb, le-ltb}
use lib.Dec.{eqb, leb, ltb}
use Prim.Native.Char.{Char, code}
use Prim.Native.Nat.{ℕ, ◌+◌, ◌-◌, ◌≤◌, ◌<◌}
use Rattle.language.proofs.Text.Choices.{outcome, clash, and_both, or_either, or_true}
use Rattle.language.specs.Text.{between, is_blank, is_letter, is_digit, is_hex_digit, worth, is_digit_of, is_name_byte}

between_bounds : (low high : Char) (b : ℕ) → between low high b ≡ true → (code low ≤ b) × (b ≤ code high)
unfolding between
between_bounds low high b e =
    let z = and_both (leb (code low) b) (leb b (code high)) e in
    (leb-true (code low) b z.0, leb-true b (code high) z.1)

-- a letter lies from `A` to `Z` or from `a` to `z`
pub letter_bounds : (b : ℕ) → is_letter b ≡ true → ((65 ≤ b) × (b ≤ 90)) ⊎ ((97 ≤ b) × (b ≤ 122))
unfolding is_letter
letter_bounds b e =
    ⊎_elim (λ x. inl (between_bounds "A" "Z" b x)) (λ x. inr (between_bounds "a" "z" b x))
    (or_either (between "A" "Z" b) (between "a" "z" b) e)

-- a digit lies from `0` to `9`
pub digit_bounds : (b : ℕ) → is_digit b ≡ true → (48 ≤ b) × (b ≤ 57)
unfolding is_digit
digit_bounds b e = between_bounds "0" "9" b e

letter_least : (b : ℕ) → is_letter b ≡ true → 65 ≤ b
letter_least b e = ⊎_elim (λ x. x.0) (λ x. omega arith) (letter_bounds b e)

-- all above the space is no blank
pub high_not_blank : (b : ℕ) → 33 ≤ b → is_blank b ≡ false
unfolding is_blank
high_not_blank b h =
    rw (ne_eqb b 32 (λ e. omega arith), ne_eqb b 9 (λ e. omega arith), ne_eqb b 13 (λ e. omega arith), ne_eqb b 10 (λ e. omega arith))

-- a letter is no blank
pub letter_not_blank : (b : ℕ) → is_letter b ≡ true → is_blank b ≡ false
letter_not_blank b e = high_not_blank b (omega (arith, letter_least b e))

-- a digit is no blank
pub digit_not_blank : (b : ℕ) → is_digit b ≡ true → is_blank b ≡ false
digit_not_blank b e = high_not_blank b (omega (arith, (digit_bounds b e).0))

-- a digit is no letter
pub digit_not_letter : (b : ℕ) → is_digit b ≡ true → is_letter b ≡ false
digit_not_letter b e =
    ⊎_elim (λ x. absurd (let l = letter_least b x in let d = digit_bounds b e in omega arith)) (λ x. x) (outcome (is_letter b))

pub letter_not_digit : (b : ℕ) → is_letter b ≡ true → is_digit b ≡ false
letter_not_digit b e =
    ⊎_elim (λ x. absurd (let l = letter_least b e in let d = digit_bounds b x in omega arith)) (λ x. x) (outcome (is_digit b))

-- a point is neither
pub point_no_digit : (b : ℕ) → b ≡ 46 → is_digit b ≡ true → ⊥
point_no_digit b e x = let d = digit_bounds b x in omega arith

pub point_no_letter : (b : ℕ) → b ≡ 46 → is_letter b ≡ true → ⊥
point_no_letter b e x = let l = letter_least b x in omega arith

-- ---- digits of other bases

-- a digit of a base lies from `0` to `9`, from `A` to `F` or from `a` to `f`
hex_bounds : (b : ℕ) → is_hex_digit b ≡ true → (is_digit b ≡ true) ⊎ (((65 ≤ b) × (b ≤ 70)) ⊎ ((97 ≤ b) × (b ≤ 102)))
unfolding is_hex_digit
hex_bounds b e =
    ⊎_elim
    (λ x. ⊎_elim (λ y. inl y) (λ y. inr (inl (between_bounds "A" "F" b y))) (or_either (is_digit b) (between "A" "F" b) x))
    (λ x. inr (inr (between_bounds "a" "f" b x))) (or_either (is_digit b || between "A" "F" b) (between "a" "f" b) e)

-- it is not 0, so it lies in the text
pub digit_of_some : (base b : ℕ) → is_digit_of base b ≡ true → 0 < b
unfolding is_digit_of
digit_of_some base b e =
    ⊎_elim (λ x. omega (arith, (digit_bounds b x).0)) (λ x. ⊎_elim (λ y. omega (arith, y.0)) (λ y. omega (arith, y.0)) x)
    (hex_bounds b (and_both (is_hex_digit b) (ltb (worth b) base) e).0)

-- what a digit of hex is worth, for each way to find it
pub worth_digit : (b : ℕ) → b ≤ 57 → worth b ≡ b - 48
unfolding worth
worth_digit b h = rw (le-leb b 57 h)

pub worth_large : (b : ℕ) → 57 < b → b ≤ 70 → worth b ≡ b - 65 + 10
unfolding worth
worth_large b l h = rw (lt-leb b 57 l, le-leb b 70 h)

pub worth_small : (b : ℕ) → 70 < b → worth b ≡ b - 97 + 10
unfolding worth
worth_small b l = rw (lt-leb b 57 (omega arith), lt-leb b 70 l)

-- and where its byte lies, then
pub hex_low : (b : ℕ) → is_hex_digit b ≡ true → 48 ≤ b
hex_low b e = ⊎_elim (λ x. (digit_bounds b x).0) (λ x. ⊎_elim (λ y. omega (arith, y.0)) (λ y. omega (arith, y.0)) x) (hex_bounds b e)

pub hex_large : (b : ℕ) → is_hex_digit b ≡ true → 57 < b → 65 ≤ b
hex_large b e l =
    ⊎_elim (λ x. absurd (omega (arith, (digit_bounds b x).1))) (λ x. ⊎_elim (λ y. y.0) (λ y. omega (arith, y.0)) x) (hex_bounds b e)

pub hex_small : (b : ℕ) → is_hex_digit b ≡ true → 70 < b → (97 ≤ b) × (b ≤ 102)
hex_small b e l =
    ⊎_elim (λ x. absurd (omega (arith, (digit_bounds b x).1))) (λ x. ⊎_elim (λ y. absurd (omega (arith, y.1))) (λ y. y) x) (hex_bounds b e)

-- a digit is one of hex
pub digit_hex : (b : ℕ) → is_digit b ≡ true → is_hex_digit b ≡ true
unfolding is_hex_digit
digit_hex b d = rw d

-- and another byte is, by where it lies
pub hex_below : (b : ℕ) → is_digit b ≡ false → b < 65 → is_hex_digit b ≡ false
unfolding is_hex_digit between
hex_below b d h = rw d (simp (lt-leb 65 b h, lt-leb 97 b (omega arith)))

pub hex_upper : (b : ℕ) → is_digit b ≡ false → 65 ≤ b → b ≤ 70 → is_hex_digit b ≡ true
unfolding is_hex_digit between
hex_upper b d l h = rw d (simp (le-leb 65 b l, le-leb b 70 h))

pub hex_gap : (b : ℕ) → is_digit b ≡ false → 70 < b → b < 97 → is_hex_digit b ≡ false
unfolding is_hex_digit between
hex_gap b d l h = rw d (simp (le-leb 65 b (omega arith), lt-leb b 70 l, lt-leb 97 b h))

pub hex_last : (b : ℕ) → is_digit b ≡ false → 70 < b → 97 ≤ b → leb b 102 ≡ is_hex_digit b
unfolding is_hex_digit between
hex_last b d l h = rw d (simp (le-leb 65 b (omega arith), lt-leb b 70 l, le-leb 97 b h))

-- a byte that is none of hex is one of no base, and of the others the worth decides
pub digit_of_no : (base b : ℕ) → is_hex_digit b ≡ false → is_digit_of base b ≡ false
unfolding is_digit_of
digit_of_no base b e = rw e

pub digit_of_hex : (base b : ℕ) → is_hex_digit b ≡ true → ltb (worth b) base ≡ is_digit_of base b
unfolding is_digit_of
digit_of_hex base b e = rw e

-- the digits of ten are the digits
pub digit_of_ten : (b : ℕ) → is_digit_of 10 b ≡ is_digit b
unfolding is_digit_of
digit_of_ten b =
    ⊎_elim
    (λ d. let z = digit_bounds b d in
    rw (digit_hex b d, lt-ltb (worth b) 10 (omega (arith, worth_digit b z.1))) (sym d))
    (λ d. ⊎_elim
    (λ h. ap (λ x. x && ltb (worth b) 10) h ∙ le-ltb (worth b) 10 (letter_worth b (hex_bounds b h) d) ∙ sym d)
    (λ h. rw h (sym d)) (outcome (is_hex_digit b)))
    (outcome (is_digit b))
  where
    letter_worth : (b : ℕ) → (is_digit b ≡ true) ⊎ (((65 ≤ b) × (b ≤ 70)) ⊎ ((97 ≤ b) × (b ≤ 102))) → is_digit b ≡ false → 10 ≤ worth b
    letter_worth b (inl x) d = absurd (clash x d)
    letter_worth b (inr (inl x)) d = omega (arith, worth_large b (omega (arith, x.0)) x.1)
    letter_worth b (inr (inr x)) d = omega (arith, worth_small b (omega (arith, x.0)))

-- ---- a class by the tests on the way to it

bounds_between : (low high : Char) (b : ℕ) → code low ≤ b → b ≤ code high → between low high b ≡ true
unfolding between
bounds_between low high b l h = rw (le-leb (code low) b l, le-leb b (code high) h)

-- a byte that is not one of the first three blanks is a blank exactly if it is LF
pub blank_last : (b : ℕ) → (b ≡ 32 → ⊥) → (b ≡ 9 → ⊥) → (b ≡ 13 → ⊥) → eqb b 10 ≡ is_blank b
unfolding is_blank
blank_last b x y z = rw (ne_eqb b 32 x, ne_eqb b 9 y, ne_eqb b 13 z)

-- a letter is a name byte
pub name_letter : (b : ℕ) → is_letter b ≡ true → is_name_byte b ≡ true
unfolding is_name_byte
name_letter b e = rw e

-- a digit is a name byte
pub name_digit : (b : ℕ) → is_digit b ≡ true → is_name_byte b ≡ true
unfolding is_name_byte
name_digit b e = rw (digit_not_letter b e, e)

-- a digit of a base is a name byte
pub name_digit_of : (base b : ℕ) → is_digit_of base b ≡ true → is_name_byte b ≡ true
unfolding is_digit_of is_letter
name_digit_of base b e =
    ⊎_elim (λ x. name_digit b x)
    (λ x. name_letter b (⊎_elim (λ y. rw (bounds_between "A" "Z" b y.0 (omega (arith, y.1))))
    (λ y. or_true (between "A" "Z" b) (bounds_between "a" "z" b y.0 (omega (arith, y.1)))) x))
    (hex_bounds b (and_both (is_hex_digit b) (ltb (worth b) base) e).0)

-- a byte that is neither is a name byte exactly if it is `_`
pub name_last : (b : ℕ) → is_letter b ≡ false → is_digit b ≡ false → eqb b 95 ≡ is_name_byte b
unfolding is_name_byte
name_last b e d = rw (e, d)

-- ---- blanks

-- a name byte is no blank
pub name_not_blank : (b : ℕ) → is_name_byte b ≡ true → is_blank b ≡ false
unfolding is_name_byte
name_not_blank b e =
    ⊎_elim (λ x. ⊎_elim (letter_not_blank b) (digit_not_blank b) (or_either (is_letter b) (is_digit b) x))
    (λ x. high_not_blank b (omega (arith, eqb-true b 95 x)))
    (or_either (is_letter b || is_digit b) (eqb b 95) e)
