-- Shares by the tests of the code, and that they are what the written language says of two trees: the first endless node of
-- both, and the sum of their counts or the larger one, as far as counts go.
use mathlib.Core.List.{List}
use mathlib.Core.Option.{Option, none, some}
use mathlib.Core.Path.{◌≡◌, refl, sym, ap, ◌∙◌}
use Prim.Native.Nat.{ℕ, ◌+◌, ◌≤◌, ◌<◌, max}
use native.Mathlib.Decide.{dec_lt}
use native.Mathlib.Omega.{arith}
use borrow.Author.Tests.{lt-ltb, le-ltb}
use Rattle.language.specs.Sizes.{TOKENS, PAY_COUNT}
use Rattle.language.specs.Profile.{or_else}
use Rattle.layout.specs.Table.{FIRST, row_word}
use Rattle.profiles.specs.Shares.{FULL, most, going_on, share, beside, instead, earlier, reach}

near : {a b : ℕ} → (a < b → ⊥) → b ≤ a
near h = omega (arith, h)

-- ---- by the tests

module _ (n : ℕ) where
  pub most_full : FULL < n → most n ≡ FULL
  unfolding most
  most_full h = rw (lt-ltb FULL n h) refl

  pub most_self : n ≤ FULL → most n ≡ n
  unfolding most
  most_self h = rw (le-ltb FULL n h) refl

module _ (i : ℕ) where
  pub going_inside : i < TOKENS → going_on i ≡ FULL + 1 + i
  unfolding going_on
  going_inside h = rw (lt-ltb i TOKENS h) refl

  pub going_outside : TOKENS ≤ i → going_on i ≡ FULL + 1 + TOKENS
  unfolding going_on
  going_outside h = rw (le-ltb i TOKENS h) refl

module _ (a b : ℕ) where
  pub beside_first : FULL < a → beside a b ≡ a
  unfolding beside
  beside_first h = rw (lt-ltb FULL a h) refl

  pub beside_second : a ≤ FULL → FULL < b → beside a b ≡ b
  unfolding beside
  beside_second h k = rw (le-ltb FULL a h, lt-ltb FULL b k) refl

  pub beside_sum : a ≤ FULL → b ≤ FULL → beside a b ≡ most (a + b)
  unfolding beside
  beside_sum h k = rw (le-ltb FULL a h, le-ltb FULL b k) refl

  pub instead_first : FULL < a → instead a b ≡ a
  unfolding instead
  instead_first h = rw (lt-ltb FULL a h) refl

  pub instead_second : a ≤ FULL → FULL < b → instead a b ≡ b
  unfolding instead
  instead_second h k = rw (le-ltb FULL a h, lt-ltb FULL b k) refl

  pub instead_larger : a ≤ FULL → b ≤ FULL → a < b → instead a b ≡ b
  unfolding instead
  instead_larger h k l = rw (le-ltb FULL a h, le-ltb FULL b k, lt-ltb a b l) refl

  pub instead_other : a ≤ FULL → b ≤ FULL → b ≤ a → instead a b ≡ a
  unfolding instead
  instead_other h k l = rw (le-ltb FULL a h, le-ltb FULL b k, le-ltb a b l) refl

module _ (w : List ℕ) (i k : ℕ) where
  pub earlier_is : row_word w i k < i → earlier w i k ≡ row_word w i k
  unfolding earlier
  earlier_is h = rw (lt-ltb (row_word w i k) i h) refl

  pub earlier_none : i ≤ row_word w i k → earlier w i k ≡ 0
  unfolding earlier
  earlier_none h = rw (le-ltb (row_word w i k) i h) refl

  pub earlier_least : (i ≡ 0 → ⊥) → earlier w i k < i
  earlier_least h = go (dec_lt (row_word w i k) i)
    where
      go : Dec (row_word w i k < i) → earlier w i k < i
      go (yes l) = omega (arith, earlier_is l)
      go (no l) = omega (arith, h, earlier_none (near l))

  pub earlier_most : earlier w i k ≤ i
  earlier_most = go (dec_lt (row_word w i k) i)
    where
      go : Dec (row_word w i k < i) → earlier w i k ≤ i
      go (yes l) = omega (arith, earlier_is l)
      go (no l) = omega (arith, earlier_none (near l))

module _ (w : List ℕ) (i : ℕ) where
  pub reach_none : i < row_word w i FIRST → reach w i ≡ 0
  unfolding reach
  reach_none h = rw (lt-ltb i (row_word w i FIRST) h) refl

  pub reach_is : row_word w i FIRST ≤ i → reach w i ≡ row_word w i FIRST
  unfolding reach
  reach_is h = rw (le-ltb i (row_word w i FIRST) h) refl

  pub reach_most : reach w i ≤ i
  reach_most = go (dec_lt i (row_word w i FIRST))
    where
      go : Dec (i < row_word w i FIRST) → reach w i ≤ i
      go (yes l) = omega (arith, reach_none l)
      go (no l) = omega (arith, l, reach_is (near l))

-- ---- counts as far as they go

most_le : (n : ℕ) → most n ≤ FULL
most_le n = go (dec_lt FULL n)
  where
    go : Dec (FULL < n) → most n ≤ FULL
    go (yes h) = omega (arith, most_full n h)
    go (no h) = omega (arith, h, most_self n (near h))

-- equal as far as they go: the same, or both too large
most_same : (m n : ℕ) → (m ≤ FULL → m ≡ n) → (FULL < m → FULL ≤ n) → most m ≡ most n
most_same m n f g = go (dec_lt FULL m) (dec_lt FULL n)
  where
    go : Dec (FULL < m) → Dec (FULL < n) → most m ≡ most n
    go (yes h) (yes k) = most_full m h ∙ sym (most_full n k)
    go (yes h) (no k) = most_full m h ∙ omega (arith, g h, k) ∙ sym (most_self n (near k))
    go (no h) d = ap most (f (near h))

sum_most : (m n : ℕ) → most (most m + most n) ≡ most (m + n)
sum_most m n = go (dec_lt FULL m) (dec_lt FULL n)
  where
    go : Dec (FULL < m) → Dec (FULL < n) → most (most m + most n) ≡ most (m + n)
    go (yes h) (yes k) = rw (most_full m h, most_full n k) (most_full _ (omega arith) ∙ sym (most_full _ (omega arith)))
    go (yes h) (no k) = rw (most_full m h, most_self n (near k)) (by_full (FULL + n) (omega arith) ∙ sym (most_full _ (omega arith)))
      where
        by_full : (x : ℕ) → FULL ≤ x → most x ≡ FULL
        by_full x l = most_same x FULL (λ e. omega arith) (λ e. omega arith) ∙ most_self FULL (omega arith)
    go (no h) (yes k) = rw (most_self m (near h), most_full n k) (by_full (m + FULL) (omega arith) ∙ sym (most_full _ (omega arith)))
      where
        by_full : (x : ℕ) → FULL ≤ x → most x ≡ FULL
        by_full x l = most_same x FULL (λ e. omega arith) (λ e. omega arith) ∙ most_self FULL (omega arith)
    go (no h) (no k) = rw (most_self m (near h), most_self n (near k)) refl

larger_most : (m n : ℕ) → instead (most m) (most n) ≡ most (max m n)
larger_most m n = go (dec_lt (most m) (most n))
  where
    go : Dec (most m < most n) → instead (most m) (most n) ≡ most (max m n)
    go (yes h) = instead_larger (most m) (most n) (most_le m) (most_le n) h ∙ larger (dec_lt FULL m) (dec_lt FULL n)
      where
        larger : Dec (FULL < m) → Dec (FULL < n) → most n ≡ most (max m n)
        larger (yes x) d = absurd (omega (arith, h, most_full m x, most_le n))
        larger (no x) (yes y) = most_full n y ∙ sym (most_full _ (omega arith))
        larger (no x) (no y) = ap most (omega (arith, h, most_self m (near x), most_self n (near y)))
    go (no h) = instead_other (most m) (most n) (most_le m) (most_le n) (near h) ∙ other (dec_lt FULL m) (dec_lt FULL n)
      where
        other : Dec (FULL < m) → Dec (FULL < n) → most m ≡ most (max m n)
        other (yes x) d = most_full m x ∙ sym (most_full _ (omega arith))
        other (no x) (yes y) = most_self m (near x) ∙ omega (arith, h, most_self m (near x), most_full n y) ∙ sym (most_full _ (omega arith))
        other (no x) (no y) = ap most (omega (arith, h, most_self m (near x), most_self n (near y)))

-- ---- shares of two trees

going_far : (i : ℕ) → FULL < going_on i
going_far i = go (dec_lt i TOKENS)
  where
    go : Dec (i < TOKENS) → FULL < going_on i
    go (yes h) = omega (arith, going_inside i h)
    go (no h) = omega (arith, going_outside i (near h))

most_near : (n : ℕ) → FULL < most n → ⊥
most_near n h = omega (arith, most_le n)

pub share_beside : (x y : Option ℕ) (m n : ℕ) → beside (share x m) (share y n) ≡ share (or_else x y) (m + n)
unfolding share or_else
share_beside none none m n = beside_sum (most m) (most n) (most_le m) (most_le n) ∙ sum_most m n
share_beside none (some j) m n = beside_second (most m) (going_on j) (most_le m) (going_far j)
share_beside (some i) y m n = beside_first (going_on i) _ (going_far i)

pub share_instead : (x y : Option ℕ) (m n : ℕ) → instead (share x m) (share y n) ≡ share (or_else x y) (max m n)
unfolding share or_else
share_instead none none m n = larger_most m n
share_instead none (some j) m n = instead_second (most m) (going_on j) (most_le m) (going_far j)
share_instead (some i) y m n = instead_first (going_on i) _ (going_far i)

-- a unit, and none
pub share_one : share none 1 ≡ 1
unfolding share
share_one = most_self 1 (omega arith)

pub share_none : share none 0 ≡ 0
unfolding share
share_none = most_self 0 (omega arith)

-- ---- back from a share

-- an endless node, by its token
pub share_endless : (x : Option ℕ) (n s : ℕ) → s ≡ share x n → FULL < s → (i : ℕ) × (x ≡ some i) × (s ≡ going_on i)
unfolding share
share_endless none n s e h = absurd (most_near n (omega (arith, e, h)))
share_endless (some i) n s e h = (i, refl, e)

-- or none, with a count
pub share_ends : (x : Option ℕ) (n s : ℕ) → s ≡ share x n → s ≤ FULL → (x ≡ none) × (s ≡ most n)
unfolding share
share_ends none n s e h = (refl, e)
share_ends (some i) n s e h = absurd (omega (arith, e, h, going_far i))

pub count_many : (n s : ℕ) → s ≡ most n → s ≡ FULL → PAY_COUNT < n
count_many n s e f = go (dec_lt FULL n)
  where
    go : Dec (FULL < n) → PAY_COUNT < n
    go (yes h) = omega arith
    go (no h) = omega (arith, e, f, most_self n (near h))

pub count_few : (n s : ℕ) → s ≡ most n → s ≤ FULL → (s ≡ FULL → ⊥) → (s ≡ n) × (s ≤ PAY_COUNT)
count_few n s e g f = go (dec_lt FULL n)
  where
    go : Dec (FULL < n) → (s ≡ n) × (s ≤ PAY_COUNT)
    go (yes h) = absurd (f (e ∙ most_full n h))
    go (no h) = (e ∙ most_self n (near h), omega (arith, f, g))
