-- A line gone over byte by byte: what is left of it decides whether it is UTF-8, and how many characters have begun.
use lib.Dec.{eqb}
use lib.ListN.{length, get_or, take, drop, length-take, length-drop}
use lib.Seq.{drop-cons, drop-length, take-suc, take-length}
use mathlib.Core.Bool.{Bool, true, false, cond, ◌&&◌}
use mathlib.Core.List.{List, [], ◌∷◌, ◌++◌}
use mathlib.Core.Path.{◌≡◌, refl, sym, ◌∙◌, ap}
use native.Mathlib.Numerals.{add-one}
use native.Mathlib.Omega.{arith}
use Prim.Native.Nat.{ℕ, suc, ◌+◌, ◌≤◌, ◌<◌}
use Rattle.page.specs.Characters.{fits_next, more_next, low_next, high_next, reads_on, is_readable, inner, heads}
use Rattle.page.specs.Lines.{columns_of}

-- the first i bytes are passed, and the rest decides, where so many bytes are due, the next of them in this range
pub record Going (t : List ℕ) (i due low high : ℕ) : Type 0 where
  pub within : i ≤ length t
  pub left : is_readable t ≡ reads_on due low high (drop i t)

-- at first no byte is passed
pub going_none : (t : List ℕ) → Going t 0 0 0 0
unfolding is_readable
going_none t = record { within = omega arith; left = refl }

module _ {t : List ℕ} {i due low high : ℕ} (g : Going t i due low high) where
  head : i < length t
      → is_readable t
      ≡ (fits_next due low high (get_or t i 0)
      && reads_on (more_next due (get_or t i 0)) (low_next due (get_or t i 0)) (high_next due (get_or t i 0)) (drop (suc i) t))
  unfolding reads_on
  head h = g.left ∙ rw (drop-cons t i 0 h)

  -- byte i fits
  pub going_more : i < length t → fits_next due low high (get_or t i 0) ≡ true → {d l m : ℕ} → d ≡ more_next due (get_or t i 0)
      → l ≡ low_next due (get_or t i 0) → m ≡ high_next due (get_or t i 0) → Going t (i + 1) d l m
  going_more h f a b e = record { within = omega arith; left = head h ∙ rw (f, a, b, e, add-one i) }

  -- byte i does not
  pub going_less : i < length t → fits_next due low high (get_or t i 0) ≡ false → false ≡ is_readable t
  going_less h f = sym (head h ∙ rw f)

  -- no byte is left
  pub going_all : length t ≤ i → eqb due 0 ≡ is_readable t
  unfolding reads_on
  going_all h = let y : i ≡ length t = omega (arith, g.within) in sym (g.left ∙ rw (y, drop-length t))

-- ---- characters that begin

one_more : (q : Bool) (m : ℕ) → cond q (m + 1) (suc (m + 1)) ≡ cond q m (suc m) + 1
one_more true m = refl
one_more false m = omega arith

heads_first : (t : List ℕ) (b : ℕ) → inner b ≡ false → heads (t ++ (b ∷ [])) ≡ heads t + 1
unfolding heads
heads_first [] b h = rw h
heads_first (x ∷ t) b h = rw (heads_first t b h) (one_more (inner x) (heads t))

heads_inner : (t : List ℕ) (b : ℕ) → inner b ≡ true → heads (t ++ (b ∷ [])) ≡ heads t
unfolding heads
heads_inner [] b h = rw h
heads_inner (x ∷ t) b h = rw (heads_inner t b h)

-- none in no text
pub heads_nil : (t : List ℕ) → heads (take 0 t) ≡ 0
unfolding heads
heads_nil t = refl

module _ (t : List ℕ) (i : ℕ) (h : i < length t) where
  longer : take (i + 1) t ≡ take i t ++ (get_or t i 0 ∷ [])
  longer = rw (add-one i) (take-suc t i 0 h)

  -- byte i begins one
  pub heads_more : inner (get_or t i 0) ≡ false → heads (take (i + 1) t) ≡ heads (take i t) + 1
  heads_more e = ap heads longer ∙ heads_first (take i t) (get_or t i 0) e

  -- byte i stands inside one
  pub heads_same : inner (get_or t i 0) ≡ true → heads (take (i + 1) t) ≡ heads (take i t)
  heads_same e = ap heads longer ∙ heads_inner (take i t) (get_or t i 0) e

-- all bytes are passed
pub heads_all : (t : List ℕ) (i n : ℕ) → i ≤ length t → length t ≤ i → n ≡ heads (take i t) → n ≡ heads t
heads_all t i n a b e = let y : i ≡ length t = omega arith in e ∙ rw (y, take-length t)

-- ---- columns

heads_short : (q : Bool) (m n : ℕ) → m ≤ n → cond q m (suc m) ≤ suc n
heads_short true m n h = omega arith
heads_short false m n h = omega arith

heads_few : (t : List ℕ) → heads t ≤ length t
unfolding heads
heads_few [] = omega arith
heads_few (x ∷ t) = heads_short (inner x) (heads t) (length t) (heads_few t)

columns_few : (q : Bool) (t : List ℕ) → columns_of q t ≤ length t
unfolding columns_of
columns_few true t = heads_few t
columns_few false t = omega arith

-- a part of a text takes no more columns than the text has bytes
pub part_few : (q : Bool) (t : List ℕ) (from n : ℕ) → columns_of q (take n (drop from t)) ≤ length t
part_few q t from n =
    omega (arith, columns_few q (take n (drop from t)), length-take n (drop from t), length-drop from t)
