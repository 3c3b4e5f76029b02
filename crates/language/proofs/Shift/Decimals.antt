-- Numbers in decimal, as a call has them: digits alone, that are worth the number, and no more than ten of them (R14.5).
use lib.Dec.{ltb}
use lib.ListN.{length, length-append}
use mathlib.Core.Bool.{Bool, true, false, cond, ◌&&◌}
use mathlib.Core.List.{[], ◌∷◌, ◌++◌}
use mathlib.Core.Path.{◌≡◌, refl, ◌∙◌}
use borrow.Author.Tests.{ltb-true, le-leb}
use native.Mathlib.Nat.{div-add-mod', mod-lt, div-lt_iff_lt-mul}
use native.Mathlib.Omega.{arith}
use Prim.Native.Nat.{ℕ, zero, suc, ◌+◌, ◌*◌, ◌/◌, ◌%◌, ◌^◌, ◌≤◌, ◌<◌}
use Rattle.language.specs.Sizes.{LARGEST}
use Rattle.language.specs.Tokens.{Spelling}
use Rattle.language.specs.Text.{between, is_digit, worth, number_from}
use Rattle.language.specs.Shift.{all_bytes, decimal_with, decimal}
use Rattle.language.proofs.Text.Classes.{worth_digit}
use Rattle.language.proofs.Text.Digits.{number_append}

-- what holds in both outcomes of a test holds of a choice by it
by_test : {A : Type 0} (P : A → Type 0) (b : Bool) (x y : A) → (b ≡ true → P x) → (b ≡ false → P y) → P (cond b x y)
by_test P true x y f g = f refl
by_test P false x y f g = g refl

-- ---- one digit

digit_is : (n : ℕ) → n < 10 → is_digit (48 + n) ≡ true
unfolding is_digit between
digit_is n h = rw (le-leb 48 (48 + n) (omega arith), le-leb (48 + n) 57 (omega arith))

digit_worth : (n : ℕ) → n < 10 → worth (48 + n) ≡ n
digit_worth n h = worth_digit (48 + n) (omega arith) ∙ omega arith

-- ---- all of them

pub all_append : (f : ℕ → Bool) (s : Spelling) (b : ℕ) → all_bytes f s ≡ true → f b ≡ true → all_bytes f (s ++ (b ∷ [])) ≡ true
unfolding all_bytes
all_append f [] b h e = rw e
all_append f (a ∷ s) b h e = go (f a) (all_bytes f s) h (λ k. all_append f s b k e)
  where
    go : (x y : Bool) → (x && y) ≡ true → (y ≡ true → all_bytes f (s ++ (b ∷ [])) ≡ true) → (x && all_bytes f (s ++ (b ∷ []))) ≡ true
    go true y h k = k h
    go false y h k = h

-- the two ways to go on
abbrev one_digit : ℕ → Spelling
one_digit n = (48 + n) ∷ []

abbrev more_digits : ℕ → ℕ → Spelling
more_digits more n = decimal_with more (n / 10) ++ one_digit (n % 10)

-- so many digits before the last are enough
abbrev pub Enough : ℕ → ℕ → Type 0
Enough more n = n < 10 ^ suc more

pub tenth : (more n : ℕ) → Enough (suc more) n → Enough more (n / 10)
tenth more n h = (div-lt_iff_lt-mul {k = 10} {x = n} {y = 10 ^ suc more} (omega arith)).1 (fits (10 ^ suc more) h)
  where
    fits : (m : ℕ) → n < 10 ^ suc (suc more) → n < 10 ^ suc more * 10
    fits m h = omega (arith, h)

digits_with : (more n : ℕ) → Enough more n → all_bytes is_digit (decimal_with more n) ≡ true
unfolding decimal_with all_bytes
digits_with zero n h = rw (digit_is n (omega arith))
digits_with (suc more) n h =
    by_test (λ s. all_bytes is_digit s ≡ true) (ltb n 10) (one_digit n) (more_digits more n) (λ e. rw (digit_is n (ltb-true n 10 e)))
    (λ e. all_append is_digit (decimal_with more (n / 10)) (48 + n % 10) (digits_with more (n / 10) (tenth more n h))
    (digit_is (n % 10) (mod-lt n (omega arith))))

one_worth : (n : ℕ) → n < 10 → number_from 10 0 (one_digit n) ≡ n
unfolding number_from
one_worth n h = omega (arith, digit_worth n h)

worth_with : (more n : ℕ) → Enough more n → number_from 10 0 (decimal_with more n) ≡ n
unfolding decimal_with number_from
worth_with zero n h = one_worth n (omega arith)
worth_with (suc more) n h =
    by_test (λ s. number_from 10 0 s ≡ n) (ltb n 10) (one_digit n) (more_digits more n) (λ e. one_worth n (ltb-true n 10 e))
    (λ e. number_append 10 0 (decimal_with more (n / 10)) ((48 + n % 10) ∷ [])
    ∙ rw (worth_with more (n / 10) (tenth more n h), digit_worth (n % 10) (mod-lt n (omega arith))) (div-add-mod' n 10))

pub few_digits : (more n : ℕ) → length (decimal_with more n) ≤ suc more
unfolding decimal_with
few_digits zero n = omega arith
few_digits (suc more) n =
    by_test (λ s. length s ≤ suc (suc more)) (ltb n 10) (one_digit n) (more_digits more n) (λ e. omega arith)
    (λ e. omega (arith, length-append (decimal_with more (n / 10)) ((48 + n % 10) ∷ []), few_digits more (n / 10)))

pub some_digit : (more n : ℕ) → 0 < length (decimal_with more n)
unfolding decimal_with
some_digit zero n = omega arith
some_digit (suc more) n =
    by_test (λ s. 0 < length s) (ltb n 10) (one_digit n) (more_digits more n) (λ e. omega arith)
    (λ e. omega (arith, length-append (decimal_with more (n / 10)) ((48 + n % 10) ∷ [])))

-- ---- a number that can be written

module _ (n : ℕ) (h : n ≤ LARGEST) where
  ten_enough : Enough 9 n
  ten_enough = omega arith

  pub decimal_digits : all_bytes is_digit (decimal n) ≡ true
  decimal_digits = digits_with 9 n ten_enough

  pub decimal_worth : number_from 10 0 (decimal n) ≡ n
  decimal_worth = worth_with 9 n ten_enough

-- the largest has as many digits as a number can have
pub largest_digits : length (decimal LARGEST) ≡ 10
unfolding decimal_with
largest_digits = refl
