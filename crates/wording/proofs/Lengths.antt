-- How long a text is at most, so that a room can be made in which none is cut: numbers, bytes that are shown, and what
-- there is of a place.
use borrow.Author.Tests.{lt-ltb}
use lib.Dec.{eqb, ltb}
use lib.ListN.{length, get_or, take, drop, length-append, length-take, length-drop}
use mathlib.Core.Bool.{Bool, true, false, cond}
use mathlib.Core.List.{List, [], ◌∷◌}
use mathlib.Core.Path.{◌≡◌, refl}
use native.Mathlib.Nat.{div-lt_iff_lt-mul, pow-suc}
use native.Mathlib.Omega.{arith}
use Prim.Native.Char.{code}
use Prim.Native.Nat.{ℕ, zero, suc, ◌+◌, ◌-◌, ◌*◌, ◌/◌, ◌%◌, ◌^◌, ◌≤◌, ◌<◌}
use Rattle.io.specs.Digits.{last_digits, hex_digit_ascii}
use Rattle.page.specs.Characters.{heads, inner}
use Rattle.page.specs.Lines.{feeds, columns_of, without_return}
use Rattle.page.specs.Text.{places, decimal_of, each, is_hidden, byte_shown, byte_blank, all_shown, all_blank}
use Rattle.wording.specs.Fields.{name_words}
use Rattle.wording.specs.Spots.{here, line_at, begin_at, end_at, bytes_at, before_at, plain_at, column_at}

-- ---- either of two

pub either : (q : Bool) (x y : List ℕ) (k : ℕ) → length x ≤ k → length y ≤ k → length (cond q x y) ≤ k
either true x y k a b = a
either false x y k a b = b

pub either_count : (q : Bool) (x y k : ℕ) → x ≤ k → y ≤ k → cond q x y ≤ k
either_count true x y k a b = a
either_count false x y k a b = b

-- ---- numbers

pub digits_long : (k n : ℕ) → length (last_digits 10 k n) ≡ k
digits_long zero n = refl
digits_long (suc k) n = omega (arith, length-append (last_digits 10 k (n / 10)) (hex_digit_ascii (n % 10) ∷ []), digits_long k (n / 10))

places_few : (k m n : ℕ) → n < 10 ^ suc k → places m n ≤ suc k
unfolding places
places_few k zero n h = omega arith
places_few zero (suc m) n h = rw (lt-ltb n 10 h) (omega arith)
places_few (suc k) (suc m) n h =
    let small : n < 10 ^ suc k * 10 = rw (← pow-suc 10 (suc k)) h in
    let few : places m (n / 10) ≤ suc k = places_few k m (n / 10) ((div-lt_iff_lt-mul {k = 10} (omega arith)).1 small) in
    either_count (ltb n 10) 1 (suc (places m (n / 10))) (suc (suc k)) (omega arith) (omega arith)

-- as many as a word of 64 bits can have
abbrev pub Short : ℕ → Type 0
Short n = n < 100000000000000000000

pub decimal_few : (n : ℕ) → Short n → length (decimal_of n) ≤ 20
unfolding decimal_of
decimal_few n h = omega (arith, digits_long (places n n) n, places_few 19 n n h)

-- ---- bytes that are shown

each_few : (f : ℕ → List ℕ) → ((b : ℕ) → length (f b) ≤ 4) → (t : List ℕ) → length (each f t) ≤ 4 * length t
unfolding each
each_few f h [] = omega arith
each_few f h (b ∷ t) = omega (arith, length-append (f b) (each f t), h b, each_few f h t)

byte_few : (plain : Bool) (b : ℕ) → length (byte_shown plain b) ≤ 4
unfolding byte_shown
byte_few plain b = either (is_hidden plain b) _ _ 4 (omega arith) (omega arith)

blank_few : (plain : Bool) (b : ℕ) → length (byte_blank plain b) ≤ 4
unfolding byte_blank
blank_few plain b =
    either (is_hidden plain b) _ _ 4 (omega arith)
    (either (eqb b (code "\t")) _ _ 4 (omega arith) (either (inner b) _ _ 4 (omega arith) (omega arith)))

pub shown_few : (plain : Bool) (t : List ℕ) → length (all_shown plain t) ≤ 4 * length t
shown_few plain t = each_few (byte_shown plain) (byte_few plain) t

pub blanks_few : (plain : Bool) (t : List ℕ) → length (all_blank plain t) ≤ 4 * length t
blanks_few plain t = each_few (byte_blank plain) (blank_few plain) t

pub name_few : (file : List ℕ) → length (name_words file) ≤ 4 * length file
unfolding name_words
name_few file = shown_few _ file

pub returned_few : (t : List ℕ) → length (without_return t) ≤ length t
unfolding without_return
returned_few t =
    either (eqb (get_or t (length t - 1) 0) (code "\r")) (take (length t - 1) t) t (length t) (omega (arith, length-take (length t - 1) t))
    (omega arith)

-- ---- of a place

feeds_few : (t : List ℕ) → feeds t ≤ length t
unfolding feeds
feeds_few [] = omega arith
feeds_few (b ∷ t) = either_count (eqb b (code "\n")) (suc (feeds t)) (feeds t) (suc (length t)) (omega (arith, feeds_few t)) (omega (arith, feeds_few t))

heads_few : (t : List ℕ) → heads t ≤ length t
unfolding heads
heads_few [] = omega arith
heads_few (b ∷ t) = either_count (inner b) (heads t) (suc (heads t)) (suc (length t)) (omega (arith, heads_few t)) (omega (arith, heads_few t))

columns_few : (plain : Bool) (t : List ℕ) → columns_of plain t ≤ length t
unfolding columns_of
columns_few plain t = either_count plain (heads t) (length t) (length t) (heads_few t) (omega arith)

part_few : (n k : ℕ) (t : List ℕ) → length (take n (drop k t)) ≤ length t
part_few n k t = omega (arith, length-take n (drop k t), length-drop k t)

module _ (t : List ℕ) (p : ℕ) where
  pub line_few : line_at t p ≤ length t + 1
  unfolding line_at
  line_few = omega (arith, feeds_few (take (here t p) t), length-take (here t p) t)

  pub bytes_few : length (bytes_at t p) ≤ length t
  unfolding bytes_at
  bytes_few = part_few (end_at t p - begin_at t p) (begin_at t p) t

  pub before_few : length (before_at t p) ≤ length t
  unfolding before_at
  before_few = part_few (here t p - begin_at t p) (begin_at t p) t

  pub column_few : column_at t p ≤ length t + 1
  unfolding column_at
  column_few = omega (arith, columns_few (plain_at t p) (before_at t p), before_few)
