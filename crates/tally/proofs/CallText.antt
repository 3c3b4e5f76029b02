-- Bytes put one behind the other into an array: what the proofs of `tally::calls` cite.
use lib.ListN.{length, set, length-set}
use mathlib.Core.List.{List, [], ◌∷◌, ◌++◌, append_assoc}
use mathlib.Core.Path.{◌≡◌, refl, ◌∙◌}
use borrow.Author.Tests.{lt-ltb, le-ltb}
use native.Mathlib.Omega.{arith}
use Prim.Native.Nat.{ℕ, zero, suc, ◌+◌, ◌-◌, ◌/◌, ◌%◌, ◌≤◌, ◌<◌}
use Rattle.language.specs.Shift.{Job, decimal_with, decimal, call_of}
use Rattle.language.proofs.Shift.Decimals.{Enough}
use Rattle.tally.specs.Calls.{OPENING, Shows, Longer}

module _ (text : List ℕ) (at b : ℕ) (h : at < length text) where
  pub put_inside : at + 1 ≤ length (set text at b)
  put_inside = omega (arith, length-set text at b)

-- ---- a number in decimal

-- a digit that is alone
one_digit : (more n : ℕ) → n < 10 → decimal_with more n ≡ (48 + n) ∷ []
unfolding decimal_with
one_digit zero n h = refl
one_digit (suc more) n h = rw (lt-ltb n 10 h)

pub only : (c : List ℕ) (i more n : ℕ) {b : ℕ} {r : List ℕ} {k : ℕ} → n < 10 → b ≡ 48 + n → Longer c i (b ∷ []) 1 r k → Longer c i (decimal_with more n) (suc more) r k
only c i more n h e p = record { text = p.text ∙ rw (e, one_digit more n h); room = omega (arith, p.room); inside = p.inside }

-- where there is more than one, one may stand before the last
pub before : (more n : ℕ) → 10 ≤ n → Enough more n → 0 < more
before zero n h k = absurd (omega arith)
before (suc more) n h k = omega arith

more_digits : (more n : ℕ) → 0 < more → 10 ≤ n → decimal_with more n ≡ decimal_with (more - 1) (n / 10) ++ ((48 + n % 10) ∷ [])
unfolding decimal_with
more_digits zero n h k = absurd (omega arith)
more_digits (suc more) n h k = let e : suc more - 1 ≡ more = omega arith in rw (le-ltb n 10 k, e)

pub last : (c : List ℕ) (i more n : ℕ) {b : ℕ} {d r : List ℕ} {j k : ℕ} → 0 < more → 10 ≤ n → b ≡ 48 + n % 10
    → Longer c i (decimal_with (more - 1) (n / 10)) (suc (more - 1)) d j → Longer d j (b ∷ []) 1 r k → Longer c i (decimal_with more n) (suc more) r k
last c i more n h l e p q = record {
  text = q.text ∙ rw (p.text, e, more_digits more n h l) (simp append_assoc);
  room = omega (arith, p.room, q.room);
  inside = q.inside;
}

-- ---- the whole call

pub whole : {a b c d e : List ℕ} {v w x y z : ℕ} (j : Job) → Shows a v OPENING 4 → Longer a v (decimal j.picks) 10 b w → Longer b w (44 ∷ []) 1 c x
    → Longer c x (decimal j.rate) 10 d y → Longer d y (41 ∷ []) 1 e z → Shows e z (call_of j) 26
unfolding call_of
whole j o p q r s = record {
  text = s.text ∙ rw (r.text, q.text, p.text, o.text) (simp append_assoc);
  room = omega (arith, o.room, p.room, q.room, r.room, s.room);
  inside = s.inside;
}

-- ---- lent as a slice
