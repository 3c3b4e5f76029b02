-- Laws over plain numbers that the proofs of `tally` cite.
use lib.Dec.{eqb, leb}
use lib.IntN.{ℤ, ◌+ℤ◌}
use lib.Signed.{mag, lt_z}
use mathlib.Core.Bool.{true, false, cond}
use mathlib.Core.Path.{◌≡◌, sym, ◌∙◌}
use borrow.Author.Tests.{lt-ltb, le-ltb, le-leb, lt-leb, eq-eqb, ne_eqb}
use mir.Syntax.{w64}
use mir.Val.{SFits, to_z, of_z}
use mir.Facts.{to_z-of_z}
use native.Mathlib.Decide.{dec_le, dec_lt}
use native.Mathlib.Omega.{arith}
use Prim.Native.Nat.{ℕ, ◌+◌, ◌*◌, ◌^◌, ◌≤◌, ◌<◌}
use Rattle.language.specs.Sizes.{LARGEST, LINES}
use Rattle.language.specs.Numbers.{stop_number}
use Rattle.language.specs.State as State
use Rattle.language.specs.Text.{between, is_digit, worth}
use Rattle.language.specs.Shift.{is_capital_hex}
use Rattle.language.proofs.Text.Choices.{clash}
use Rattle.tally.specs.declared.lines.Part.{Part}
use Rattle.tally.specs.Parts.{spoilt, with_digit, longer}
use Rattle.language.specs.Shift.{lesser, greater}
use lib.ListN.{get_or, set}
use Rattle.numbers.specs.declared.Stop.{Stop}
use Rattle.tally.specs.declared.sums.Sums.{Sums}
use Rattle.tally.specs.Sums.{stop_index, counted, HIGH, LOW, summed, with_stop, with_pay}

-- ---- bytes

module _ (b : ℕ) where
  pub hex_low : b < 48 → is_capital_hex b ≡ false
  unfolding is_capital_hex is_digit between
  hex_low h = rw (lt-leb 48 b h, lt-leb 65 b (omega arith))

  pub hex_gap : 57 < b → b < 65 → is_capital_hex b ≡ false
  unfolding is_capital_hex is_digit between
  hex_gap h k = rw (le-leb 48 b (omega arith), lt-leb b 57 h, lt-leb 65 b k)

  pub hex_last : 57 < b → 65 ≤ b → leb b 70 ≡ is_capital_hex b
  unfolding is_capital_hex is_digit between
  hex_last h k = rw (le-leb 48 b (omega arith), lt-leb b 57 h, le-leb 65 b k)

  pub hex_bounds : is_capital_hex b ≡ true → (48 ≤ b) × (b ≤ 70) × (57 < b → 65 ≤ b)
  hex_bounds e = by_low (dec_lt b 48) (dec_le b 57) (dec_lt b 65) (dec_le b 70)
    where
      by_low : Dec (b < 48) → Dec (b ≤ 57) → Dec (b < 65) → Dec (b ≤ 70) → (48 ≤ b) × (b ≤ 70) × (57 < b → 65 ≤ b)
      by_low (yes h) y z w = absurd (clash e (hex_low h))
      by_low (no h) (yes k) z w = (omega (arith, h), omega arith, λ l. absurd (omega arith))
      by_low (no h) (no k) (yes l) w = absurd (clash e (hex_gap (omega (arith, k)) l))
      by_low (no h) (no k) (no l) (yes m) = (omega (arith, h), m, λ n. omega (arith, l))
      by_low (no h) (no k) (no l) (no m) =
          absurd (clash e (sym (hex_last (omega (arith, k)) (omega (arith, l))) ∙ lt-leb b 70 (omega (arith, m))))

-- ---- a line

module _ (p : Part) where
  pub spoilt_longer : (b : ℕ) → p.bad ≡ true → p ≡ longer p b
  unfolding longer
  spoilt_longer b e = rw e

  module _ (ok : p.bad ≡ false) where
    pub digit_longer : (b : ℕ) → p.at < 20 → is_capital_hex b ≡ true → with_digit p (worth b) ≡ longer p b
    unfolding longer
    digit_longer b h e = rw (ok, lt-ltb p.at 20 h, e)

    pub other_longer : (b : ℕ) → p.at < 20 → is_capital_hex b ≡ false → spoilt p ≡ longer p b
    unfolding longer
    other_longer b h e = rw (ok, lt-ltb p.at 20 h, e)

    pub past_longer : (b : ℕ) → 20 ≤ p.at → spoilt p ≡ longer p b
    unfolding longer
    past_longer b h = rw (ok, le-ltb p.at 20 h)

  pub loom_digit : (d : ℕ) → p.at < 4 → record { at = p.at + 1; picks = p.picks; rate = p.rate; bad = p.bad } ≡ with_digit p d
  unfolding with_digit
  loom_digit d h = rw (lt-ltb p.at 4 h)

  pub picks_digit : (d : ℕ) → 4 ≤ p.at → p.at < 12 → p.picks ≤ LARGEST
      → record { at = p.at + 1; picks = p.picks * 16 + d; rate = p.rate; bad = p.bad } ≡ with_digit p d
  unfolding with_digit
  picks_digit d h k l = rw (le-ltb p.at 4 h, lt-ltb p.at 12 k, le-leb p.picks LARGEST l)

  pub picks_over : (d : ℕ) → 4 ≤ p.at → p.at < 12 → LARGEST < p.picks → spoilt p ≡ with_digit p d
  unfolding with_digit
  picks_over d h k l = rw (le-ltb p.at 4 h, lt-ltb p.at 12 k, lt-leb p.picks LARGEST l)

  pub rate_digit : (d : ℕ) → 12 ≤ p.at → p.rate ≤ LARGEST
      → record { at = p.at + 1; picks = p.picks; rate = p.rate * 16 + d; bad = p.bad } ≡ with_digit p d
  unfolding with_digit
  rate_digit d h l = rw (le-ltb p.at 4 (omega arith), le-ltb p.at 12 h, le-leb p.rate LARGEST l)

  pub rate_over : (d : ℕ) → 12 ≤ p.at → LARGEST < p.rate → spoilt p ≡ with_digit p d
  unfolding with_digit
  rate_over d h l = rw (le-ltb p.at 4 (omega arith), le-ltb p.at 12 h, lt-leb p.rate LARGEST l)

-- ---- counts and sums

pub counted_more : (n : ℕ) → n < LINES → n + 1 ≡ counted n
unfolding counted
counted_more n h = rw (lt-ltb n LINES h)

-- a stop's number is one of nine
pub stop_least : (s : State.Stop) → 50 ≤ stop_number s
stop_least State.no_unit = omega arith
stop_least State.too_deep = omega arith
stop_least State.out_of_range = omega arith
stop_least State.zero_divisor = omega arith
stop_least State.cell_freed = omega arith
stop_least State.cells_full = omega arith
stop_least State.not_a_byte = omega arith
stop_least State.output_full = omega arith
stop_least State.zero_step = omega arith

pub stop_most : (s : State.Stop) → stop_number s < 59
stop_most State.no_unit = omega arith
stop_most State.too_deep = omega arith
stop_most State.out_of_range = omega arith
stop_most State.zero_divisor = omega arith
stop_most State.cell_freed = omega arith
stop_most State.cells_full = omega arith
stop_most State.not_a_byte = omega arith
stop_most State.output_full = omega arith
stop_most State.zero_step = omega arith

module _ (a b : ℤ) where
  pub plus_summed : lt_z HIGH a ≡ false → lt_z a LOW ≡ false → a +ℤ b ≡ summed a b
  unfolding summed
  plus_summed e f = rw (e, f)

-- ---- sums, field by field

-- a number of 64 bits is read back from its bits
pub back : {z : ℤ} → mag z < 2 ^ 63 → to_z w64 (of_z w64 z) ≡ z
back h = to_z-of_z {w = w64} (record { sfits = h })

-- what an operation makes of a field and a pay, each read from its bits
pub picked : (op : ℤ → ℤ → ℤ) (x z : ℤ) {r : ℤ} → mag x < 2 ^ 63 → SFits w64 z → r ≡ op (to_z w64 (of_z w64 x)) (to_z w64 (of_z w64 z)) → r ≡ op x z
picked op x z hx hz e = e ∙ rw (back hx, to_z-of_z {w = w64} hz)

module _ (s : Sums) (z : ℤ) (n m : ℕ) (t l g : ℤ) (en : n ≡ counted s.lines) (em : m ≡ counted s.paid) (et : t ≡ summed s.sum z) where
  abbrev told : Sums
  told = record { lines = n; bad = s.bad; stops = s.stops; paid = m; sum = t; least = l; largest = g }

  pub first_pay : s.paid ≡ 0 → l ≡ z → g ≡ z → told ≡ with_pay s z
  unfolding with_pay
  first_pay p el eg =
      let le : l ≡ cond (eqb s.paid 0) z (lesser s.least z) = rw (eq-eqb _ _ p) el in
      let ge : g ≡ cond (eqb s.paid 0) z (greater s.largest z) = rw (eq-eqb _ _ p) eg in
      λ i. record { lines = en i; bad = s.bad; stops = s.stops; paid = em i; sum = et i; least = le i; largest = ge i }

  pub next_pay : (s.paid ≡ 0 → ⊥) → l ≡ lesser s.least z → g ≡ greater s.largest z → told ≡ with_pay s z
  unfolding with_pay
  next_pay p el eg =
      let le : l ≡ cond (eqb s.paid 0) z (lesser s.least z) = rw (ne_eqb _ _ p) el in
      let ge : g ≡ cond (eqb s.paid 0) z (greater s.largest z) = rw (ne_eqb _ _ p) eg in
      λ i. record { lines = en i; bad = s.bad; stops = s.stops; paid = em i; sum = et i; least = le i; largest = ge i }

pub stop_told : (s : Sums) (w : Stop) (n i k : ℕ) → n ≡ counted s.lines → i ≡ stop_index w → k ≡ counted (get_or s.stops i 0)
    → ◌≡◌ {A = Sums}
    (record { lines = n; bad = s.bad; stops = set s.stops i k; paid = s.paid; sum = s.sum; least = s.least; largest = s.largest })
    (with_stop s w)
stop_told s w n i k en ei ek =
    let e : set s.stops i k ≡ set s.stops (stop_index w) (counted (get_or s.stops (stop_index w) 0)) = rw (ek, ei) in
    λ j. record { lines = en j; bad = s.bad; stops = e j; paid = s.paid; sum = s.sum; least = s.least; largest = s.largest }
