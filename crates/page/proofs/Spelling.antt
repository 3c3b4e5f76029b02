-- Digits read one by one: what is left of them goes on from the number so far.
use borrow.Author.Tests.{le-leb, lt-leb}
use lib.Dec.{leb}
use lib.ListN.{length, get_or, drop}
use lib.Seq.{drop-cons, drop-length}
use mathlib.Core.Bool.{true, false, ◌&&◌}
use mathlib.Core.List.{List}
use mathlib.Core.Logic.{⊎_elim}
use mathlib.Core.Path.{◌≡◌, refl, ◌∙◌, ap}
use native.Mathlib.Numerals.{add-one}
use native.Mathlib.Omega.{arith}
use Prim.Native.Nat.{ℕ, suc, ◌+◌, ◌*◌, ◌≤◌, ◌<◌}
use Rattle.language.specs.Text.{worth, number_from}
use Rattle.language.proofs.Text.Choices.{outcome, and_both}
use Rattle.std.proofs.lemmas.Bool.{leb-true}
use Rattle.language.proofs.Text.Digits.{number_least}
use Rattle.page.proofs.Adding.{le_or_lt}
use Rattle.page.specs.Amounts.{is_number, Spells, number_up_to}
use Rattle.std.specs.Prelude.{Some, None}

-- the first i digits are v, which is at most m
pub record Counted (m : ℕ) (w : List ℕ) (i v : ℕ) : Type 0 where
  pub within : i ≤ length w
  pub small : v ≤ m
  pub left : number_from 10 0 w ≡ number_from 10 v (drop i w)

-- at first none is read
pub counted_none : (m : ℕ) (w : List ℕ) → Counted m w 0 0
counted_none m w = record { within = omega arith; small = omega arith; left = refl }

module _ {m : ℕ} {w : List ℕ} {i v : ℕ} (g : Counted m w i v) (h : i < length w) {d : ℕ} (e : d ≡ worth (get_or w i 0)) where
  on : number_from 10 0 w ≡ number_from 10 (v * 10 + d) (drop (suc i) w)
  unfolding number_from
  on = g.left ∙ rw (drop-cons w i 0 h, e) refl

  -- one more
  pub counted_more : v * 10 + d ≤ m → Counted m w (i + 1) (v * 10 + d)
  counted_more l = record { within = omega arith; small = l; left = on ∙ rw (add-one i) refl }

  -- one more, and the number is too large whatever follows
  pub counted_large : m < v * 10 + d → Spells m (number_from 10 0 w) (v * 10 + d)
  counted_large l = ((λ k. absurd (omega (arith, on, number_least 10 (v * 10 + d) (drop (suc i) w) (omega arith)))), λ k. l)

-- none is left
pub counted_all : {m : ℕ} {w : List ℕ} {i v : ℕ} → Counted m w i v → length w ≤ i → Spells m (number_from 10 0 w) v
unfolding number_from
counted_all {m} {w} {i} {v} g h =
    let y : i ≡ length w = omega (arith, g.within) in
    let q : number_from 10 0 w ≡ v = g.left ∙ rw (y, drop-length w) refl in
    ((λ k. omega (arith, q)), λ k. omega (arith, q))

-- ---- up to a limit

module _ (most : ℕ) (w : List ℕ) where
  -- no number at all
  pub no_digits : is_number w ≡ false → None ≡ number_up_to most w
  unfolding number_up_to
  no_digits h = rw h

  module _ (h : is_number w ≡ true) {r : ℕ} (s : Spells most (number_from 10 0 w) r) where
    pub small_enough : r ≤ most → Some r ≡ number_up_to most w
    unfolding number_up_to
    small_enough l =
        let n = number_from 10 0 w in
        let k : n ≤ most = ⊎_elim (λ a. a) (λ b. absurd (omega (arith, s.1 b))) (le_or_lt n most) in
        rw (h, le-leb n most k) (ap Some (s.0 k))

    pub too_large : most < r → None ≡ number_up_to most w
    unfolding number_up_to
    too_large l =
        let n = number_from 10 0 w in
        let k : most < n = ⊎_elim (λ a. absurd (omega (arith, s.0 a))) (λ b. b) (le_or_lt n most) in
        rw (h, lt-leb n most k)

-- a number up to a limit is within it
pub up_to_small : (most : ℕ) (w : List ℕ) {n : ℕ} → number_up_to most w ≡ Some n → n ≤ most
unfolding number_up_to
up_to_small most w {n} e = ⊎_elim found (λ h. absurd (missing h)) (outcome (is_number w && leb (number_from 10 0 w) most))
  where
    missing : (is_number w && leb (number_from 10 0 w) most) ≡ false → ⊥
    missing h = let z : None ≡ Some n = rw h at e in cc

    found : (is_number w && leb (number_from 10 0 w) most) ≡ true → n ≤ most
    found h =
        let z : Some (number_from 10 0 w) ≡ Some n = rw h at e in
        let y : number_from 10 0 w ≡ n = cc in
        omega (arith, leb-true (number_from 10 0 w) most (and_both (is_number w) _ h).1)
