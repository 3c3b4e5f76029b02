-- A number in decimal is read as that number, and so is one with its sign; no line feed is in it, nor in a file's name.
use lib.Dec.{eqb, ltb}
use lib.IntN.{ℤ, pos, negsuc, neg_ℤ, nat_abs}
use mathlib.Core.Bool.{Bool, true, false, cond}
use mathlib.Core.List.{List, [], ◌∷◌, ◌++◌}
use mathlib.Core.Logic.{⊎_elim}
use mathlib.Core.Path.{◌≡◌, refl, ap, ◌∙◌}
use borrow.Author.Tests.{ltb-true, ltb-false, lt-ltb, le-leb, ne_eqb}
use native.Mathlib.Nat.{div-add-mod', mod-lt, div-lt_iff_lt-mul, pow-suc, div-lt_self}
use native.Mathlib.Omega.{arith}
use Prim.Native.Nat.{ℕ, zero, suc, ◌+◌, ◌/◌, ◌%◌, ◌^◌, ◌≤◌, ◌<◌}
use Rattle.io.specs.Digits.{last_digits, hex_digit_ascii}
use Rattle.language.proofs.Text.Choices.{outcome, clash, and_both}
use Rattle.language.proofs.Text.Classes.{worth_digit}
use Rattle.language.proofs.Text.Digits.{number_append}
use Rattle.language.specs.Text.{between, is_digit, worth, number_from}
use Rattle.std.specs.Prelude.{Some}
use Rattle.page.specs.Amounts.{all_digits, is_number, number_up_to, AMOUNT, amount_by, amount_in}
use Rattle.page.specs.Characters.{is_readable}
use Rattle.page.specs.Lines.{feeds}
use Rattle.page.specs.Text.{places, decimal_of, each, is_hidden, byte_shown, all_shown}
use Rattle.wording.specs.Fields.{name_words}
use Rattle.wording.specs.Values.{signed_by, signed_words}
use Rattle.records.proofs.LinesRead.{both_quiet}

-- what holds in both outcomes of a test holds of a choice by it
by_test : {A : Type 0} (P : A → Type 0) (b : Bool) (x y : A) → (b ≡ true → P x) → (b ≡ false → P y) → P (cond b x y)
by_test P true x y f g = f refl
by_test P false x y f g = g refl

-- ---- a digit

module _ (d : ℕ) (h : d < 10) where
  plain : hex_digit_ascii d ≡ 48 + d
  plain = rw (lt-ltb d 10 h) refl

  glyph_is : is_digit (hex_digit_ascii d) ≡ true
  unfolding is_digit between
  glyph_is = rw (plain, le-leb 48 (48 + d) (omega arith), le-leb (48 + d) 57 (omega arith)) refl

  glyph_worth : worth (hex_digit_ascii d) ≡ d
  glyph_worth = ap worth plain ∙ worth_digit (48 + d) (omega arith) ∙ omega arith

-- ---- all of them

all_more : (s : List ℕ) (b : ℕ) → all_digits s ≡ true → is_digit b ≡ true → all_digits (s ++ (b ∷ [])) ≡ true
unfolding all_digits
all_more [] b h e = rw e refl
all_more (a ∷ s) b h e =
    let p = and_both (is_digit a) (all_digits s) h in
    rw p.0 (all_more s b p.1 e)

digits_all : (k n : ℕ) → all_digits (last_digits 10 k n) ≡ true
unfolding all_digits
digits_all zero n = refl
digits_all (suc k) n = all_more (last_digits 10 k (n / 10)) (hex_digit_ascii (n % 10)) (digits_all k (n / 10)) (glyph_is (n % 10) (mod-lt n (omega arith)))

tenth : (k n : ℕ) → n < 10 ^ suc k → n / 10 < 10 ^ k
tenth k n h = (div-lt_iff_lt-mul {k = 10} {x = n} {y = 10 ^ k} (omega arith)).1 (rw (← pow-suc 10 k) h)

digits_worth : (k n : ℕ) → n < 10 ^ k → number_from 10 0 (last_digits 10 k n) ≡ n
unfolding number_from
digits_worth zero n h = omega arith
digits_worth (suc k) n h =
    number_append 10 0 (last_digits 10 k (n / 10)) (hex_digit_ascii (n % 10) ∷ [])
    ∙ rw (digits_worth k (n / 10) (tenth k n h), glyph_worth (n % 10) (mod-lt n (omega arith))) (div-add-mod' n 10)

some_number : (s : List ℕ) (b : ℕ) → all_digits (s ++ (b ∷ [])) ≡ true → is_number (s ++ (b ∷ [])) ≡ true
unfolding is_number
some_number [] b h = h
some_number (a ∷ s) b h = h

-- ---- as many as a number has

module _ (k : ℕ) where
  tens : (n : ℕ) → n / 10 < 10 ^ k → n < 10 ^ suc k
  tens n h = rw (pow-suc 10 k) ((div-lt_iff_lt-mul {k = 10} {x = n} {y = 10 ^ k} (omega arith)).0 h)

enough : (k n : ℕ) → n ≤ k → n < 10 ^ places k n
unfolding places
enough zero n h = omega arith
enough (suc k) n h =
    by_test (λ (p : ℕ). n < 10 ^ p) (ltb n 10) 1 (suc (places k (n / 10))) (λ e. small (ltb-true n 10 e))
    (λ e. tens (places k (n / 10)) n (enough k (n / 10) (omega (arith, div-lt_self {n = n} {k = 10} (omega (arith, ltb-false n 10 e)) (omega arith)))))
  where
    small : n < 10 → n < 10 ^ 1
    small l = omega arith

numbered : (k n : ℕ) → is_number (last_digits 10 (suc k) n) ≡ true
numbered k n = some_number (last_digits 10 k (n / 10)) (hex_digit_ascii (n % 10)) (digits_all (suc k) n)

placed : (k n m : ℕ) → is_number (last_digits 10 (places k n) m) ≡ true
unfolding places
placed zero n m = numbered 0 m
placed (suc k) n m =
    by_test (λ (p : ℕ). is_number (last_digits 10 p m) ≡ true) (ltb n 10) 1 (suc (places k (n / 10))) (λ e. numbered 0 m)
    (λ e. numbered (places k (n / 10)) m)

pub decimal_is : (n : ℕ) → is_number (decimal_of n) ≡ true
unfolding decimal_of
decimal_is n = placed n n n

pub decimal_worth : (n : ℕ) → number_from 10 0 (decimal_of n) ≡ n
unfolding decimal_of
decimal_worth n = digits_worth (places n n) n (enough n n (omega arith))

pub count_read : (most n : ℕ) → n ≤ most → number_up_to most (decimal_of n) ≡ Some n
unfolding number_up_to
count_read most n h = rw (decimal_is n, decimal_worth n, le-leb n most h) refl

-- ---- with a sign

digit_apart : (b c : ℕ) → is_digit b ≡ true → is_digit c ≡ false → eqb b c ≡ false
digit_apart b c h k = ne_eqb b c (λ e. clash h (ap is_digit e ∙ k))

module _ (f : ℕ → ℤ) where
  by_worth : (w : List ℕ) {n : ℕ} → is_number w ≡ true → number_from 10 0 w ≡ n → n ≤ AMOUNT → amount_by f w ≡ Some (f n)
  unfolding amount_by
  by_worth w {n} h e l = rw (h, e, le-leb n AMOUNT l) refl

unsigned : (w : List ℕ) {n : ℕ} → is_number w ≡ true → number_from 10 0 w ≡ n → n ≤ AMOUNT → amount_in w ≡ Some (pos n)
unfolding amount_in is_number all_digits is_digit between
unsigned [] h e l = absurd (clash h refl)
unsigned (b ∷ w) h e l =
    rw (digit_apart b 45 (and_both (is_digit b) (all_digits w) h).0 refl) (by_worth pos (b ∷ w) h e l)

pub amount_read : (z : ℤ) → nat_abs z ≤ AMOUNT → amount_in (signed_words z) ≡ Some z
unfolding signed_by amount_in
amount_read (pos n) h = unsigned (decimal_of n) (decimal_is n) (decimal_worth n) h
amount_read (negsuc n) h =
    by_worth (λ m. neg_ℤ (pos m)) (decimal_of (suc n)) (decimal_is (suc n)) (decimal_worth (suc n)) h

-- ---- no line feed

digits_quiet : (t : List ℕ) → all_digits t ≡ true → feeds t ≡ 0
unfolding feeds all_digits is_digit between
digits_quiet [] h = refl
digits_quiet (b ∷ t) h =
    let p = and_both (is_digit b) (all_digits t) h in
    rw (digit_apart b 10 p.0 refl) (digits_quiet t p.1)

pub decimal_quiet : (n : ℕ) → feeds (decimal_of n) ≡ 0
unfolding decimal_of
decimal_quiet n = digits_quiet (last_digits 10 (places n n) n) (digits_all (places n n) n)

pub signed_quiet : (z : ℤ) → feeds (signed_words z) ≡ 0
unfolding signed_by feeds
signed_quiet (pos n) = decimal_quiet n
signed_quiet (negsuc n) = decimal_quiet (suc n)

glyph_large : (d : ℕ) → eqb (hex_digit_ascii d) 10 ≡ false
glyph_large d = ne_eqb (hex_digit_ascii d) 10 (λ e. by_test (λ (g : ℕ). g ≡ 10 → ⊥) (ltb d 10) (48 + d) (87 + d) (λ k z. omega arith) (λ k z. omega arith) e)

feed_hidden : (plain : Bool) → is_hidden plain 10 ≡ true
unfolding is_hidden
feed_hidden plain = refl

shown_quiet : (plain : Bool) (b : ℕ) → feeds (byte_shown plain b) ≡ 0
unfolding byte_shown feeds
shown_quiet plain b = ⊎_elim hidden seen (outcome (is_hidden plain b))
  where
    hidden : is_hidden plain b ≡ true → feeds (byte_shown plain b) ≡ 0
    hidden h = rw (h, glyph_large (b / 16), glyph_large (b % 16)) refl

    seen : is_hidden plain b ≡ false → feeds (byte_shown plain b) ≡ 0
    seen h = rw (h, ne_eqb b 10 (λ e. clash (ap (is_hidden plain) e ∙ feed_hidden plain) h)) refl

pub name_quiet : (file : List ℕ) → feeds (name_words file) ≡ 0
unfolding name_words each feeds
name_quiet file = go (is_readable file) file
  where
    go : (plain : Bool) (t : List ℕ) → feeds (all_shown plain t) ≡ 0
    go plain [] = refl
    go plain (b ∷ t) = both_quiet (byte_shown plain b) (each (byte_shown plain) t) (shown_quiet plain b) (go plain t)
