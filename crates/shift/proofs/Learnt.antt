-- The laws of `Admitting` as the code comes to them: an answer by the case that a match has learnt of it.
use lib.ListN.{length, length-append, length-drop, length-replicate}
use mathlib.Core.Bool.{Bool, true, false}
use mathlib.Core.List.{List}
use mathlib.Core.Logic.{◌⊎◌}
use mathlib.Core.Path.{◌≡◌, refl, subst}
use native.Mathlib.Omega.{arith}
use Rattle.std.proofs.Common.{Result, Ok, Err}
use Prim.Native.Nat.{ℕ, ◌≤◌}
use Rattle.language.specs.Sizes.{TABLE}
use Rattle.language.specs.Tokens.{spell}
use Rattle.language.specs.Answers.{Check, cleared}
use Rattle.language.specs.Pairs.{front}
use Rattle.language.specs.Edition.{pair_in}
use Rattle.language.specs.Outline.{Outline}
use Rattle.language.specs.Shift.{ZERO, LARGEST_CALL, call_of, decimal_with}
use Rattle.language.proofs.Shift.Books.{PAY_WANTED}
use Rattle.numbers.specs.declared.Refusal as Code
use Rattle.pairs.specs.Spots.{meant}
use Rattle.pairs.specs.declared.Spot.{Spot}
use Rattle.grumpy.specs.Reports.{CheckedAt, pair_checked_report}
use Rattle.outlines.specs.declared.Found.{Found}
use Rattle.outlines.specs.Reports.{outlined_report}
use Rattle.shift.specs.declared.Why.{Why}
use Rattle.shift.specs.Meanings.{Admission}
use Rattle.shift.specs.Admitting.{AskedOfRoom, AskedOfBook, AskedOfText}
use Rattle.shift.proofs.Admitting.{room_passed, room_refused, book_found, no_book_found, book_refused, text_passed, text_refused}

-- the largest call, as the code writes it
abbrev pub WRITTEN : List ℕ
WRITTEN = spell "pay(2147483647,2147483647)"

largest_call : WRITTEN ≡ LARGEST_CALL
unfolding call_of decimal_with
largest_call = refl

module _ (ed : ℕ) (book table table₁ : List ℕ) (long : TABLE ≤ length table) where
  abbrev Answers : List ℕ → CheckedAt Spot → Type 0
  Answers under k = Check (pair_in ed book under) table (pair_checked_report k) table₁

  largest : (k : CheckedAt Spot) → Answers WRITTEN k → Answers LARGEST_CALL k
  largest k c = subst (λ (under : List ℕ). Answers under k) largest_call c

  pub room_is_passed : (k : CheckedAt Spot) (n : ℕ) → Answers WRITTEN k → k ≡ Ok n
      → AskedOfRoom ed book table (Ok tt) table₁
  room_is_passed k n c e = room_passed ed book table table₁ long n (subst (Answers LARGEST_CALL) e (largest k c))

  pub room_is_refused : (k : CheckedAt Spot) (y : Code.Refusal) (x : Spot) → Answers WRITTEN k → k ≡ Err (record { why = y; place = x })
      → AskedOfRoom ed book table (Err (record { why = Why.Sheet y; spot = x })) table₁
  room_is_refused k y x c e = room_refused ed book table table₁ long y x (subst (Answers LARGEST_CALL) e (largest k c))

  pub text_is_passed : (k : CheckedAt Spot) (n : ℕ) (r : Admission) (table' : List ℕ) → Answers ZERO k → k ≡ Ok n
      → AskedOfBook ed book table₁ r table' → AskedOfText ed book table r table'
  text_is_passed k n r table' c e q = text_passed ed book table table₁ long n r table' (subst (Answers ZERO) e c) q

  pub text_is_refused : (k : CheckedAt Spot) (y : Code.Refusal) (x : Spot) → Answers ZERO k → k ≡ Err (record { why = y; place = x })
      → AskedOfText ed book table (Err (record { why = Why.Sheet y; spot = x })) table₁
  text_is_refused k y x c e = text_refused ed book table table₁ long y x (subst (Answers ZERO) e c)

  abbrev Draws : Result Found Code.Refusal → Type 0
  Draws k = Outline (pair_in ed book ZERO) PAY_WANTED table (outlined_report k) table₁

  pub book_is_found : (k : Result Found Code.Refusal) (a b : Bool) (r : Admission) (table' : List ℕ) → Draws k → k ≡ Ok (record { alone = a; there = b }) → a ≡ true → b ≡ true
      → AskedOfRoom ed book table₁ r table' → AskedOfBook ed book table r table'
  book_is_found k a b r table' c e f g q = book_found ed book table table₁ long a b r table' (subst Draws e c) f g q

  pub no_book_is_found : (k : Result Found Code.Refusal) (a b : Bool) (x : Spot) → Draws k → k ≡ Ok (record { alone = a; there = b }) → (a ≡ false) ⊎ (b ≡ false)
      → meant x ≡ front → AskedOfBook ed book table (Err (record { why = Why.NoBook; spot = x })) table₁
  no_book_is_found k a b x c e f g = no_book_found ed book table table₁ long a b x (subst Draws e c) f g

  pub book_is_refused : (k : Result Found Code.Refusal) (y : Code.Refusal) (x : Spot) → Draws k → k ≡ Err y
      → AskedOfBook ed book table (Err (record { why = Why.Sheet y; spot = x })) table₁
  book_is_refused k y x c e = book_refused ed book table table₁ long y x (subst Draws e c)

-- as long as before
pub cleared_length : (n : ℕ) (words : List ℕ) → n ≤ length words → length (cleared n words) ≡ length words
unfolding cleared
cleared_length n words h = simp (length-append, length-replicate, length-drop) (omega arith)
