-- An int as what it has above zero and what it has below, so that sums and orders of ints are sums and orders of numbers.
use lib.Dec.{ltb}
use lib.IntN.{ℤ, pos, negsuc, neg_ℤ, sub_ℕ, ◌+ℤ◌, ◌-ℤ◌, ◌*ℤ◌, zero-*ℤ, suc_ℤ-*ℤ, +ℤ_comm}
use lib.Signed.{le_z, lt_z}
use mathlib.Core.Bool.{Bool, true, false, cond}
use mathlib.Core.Path.{◌≡◌, refl, ap, ◌∙◌}
use borrow.Author.Tests.{ltb-true, ltb-false, leb-true, le-leb, le-ltb}
use native.Mathlib.Omega.{arith}
use Prim.Native.Nat.{ℕ, zero, suc, ◌+◌, ◌-◌, ◌≤◌, ◌<◌}
use Rattle.language.specs.Shift.{lesser, greater}
use Rattle.language.proofs.Text.Choices.{clash}

unfoldable pub above : ℤ → ℕ
above (pos n) = n
above (negsuc n) = 0

unfoldable pub below : ℤ → ℕ
below (pos n) = 0
below (negsuc n) = suc n

-- y is no more than z
abbrev pub Under : ℤ → ℤ → Type 0
Under y z = above y + below z ≤ above z + below y

-- ---- order

pub le_under : (y z : ℤ) → le_z y z ≡ true → Under y z
unfolding above below
le_under (pos a) (pos b) e = omega (arith, leb-true a b e)
le_under (pos a) (negsuc b) e = absurd (clash e refl)
le_under (negsuc a) (pos b) e = omega arith
le_under (negsuc a) (negsuc b) e = omega (arith, leb-true b a e)

pub under_le : (y z : ℤ) → Under y z → le_z y z ≡ true
unfolding above below
under_le (pos a) (pos b) h = le-leb a b (omega arith)
under_le (pos a) (negsuc b) h = absurd (omega arith)
under_le (negsuc a) (pos b) h = refl
under_le (negsuc a) (negsuc b) h = le-leb b a (omega arith)

pub less_under : (y z : ℤ) → lt_z y z ≡ true → above y + below z < above z + below y
unfolding above below
less_under (pos a) (pos b) e = omega (arith, ltb-true a b e)
less_under (pos a) (negsuc b) e = absurd (clash e refl)
less_under (negsuc a) (pos b) e = omega arith
less_under (negsuc a) (negsuc b) e = omega (arith, ltb-true b a e)

pub not_less_under : (y z : ℤ) → lt_z y z ≡ false → Under z y
unfolding above below
not_less_under (pos a) (pos b) e = omega (arith, ltb-false a b e)
not_less_under (pos a) (negsuc b) e = omega arith
not_less_under (negsuc a) (pos b) e = absurd (clash refl e)
not_less_under (negsuc a) (negsuc b) e = omega (arith, ltb-false b a e)

pub under_not_less : (y z : ℤ) → Under z y → lt_z y z ≡ false
unfolding above below
under_not_less (pos a) (pos b) h = le-ltb a b (omega arith)
under_not_less (pos a) (negsuc b) h = refl
under_not_less (negsuc a) (pos b) h = absurd (omega arith)
under_not_less (negsuc a) (negsuc b) h = le-ltb b a (omega arith)

-- each no more than the other
pub under_same : (y z : ℤ) → Under y z → Under z y → y ≡ z
unfolding above below
under_same (pos a) (pos b) h k = let e : a ≡ b = omega arith in ap pos e
under_same (pos a) (negsuc b) h k = absurd (omega arith)
under_same (negsuc a) (pos b) h k = absurd (omega arith)
under_same (negsuc a) (negsuc b) h k = let e : a ≡ b = omega arith in ap negsuc e

-- ---- sums

-- both sides of a sum, but for what they have in common
abbrev Balanced : ℕ → ℕ → ℤ → Type 0
Balanced a b z = above z + b ≡ below z + a

sub_sides : (a b : ℕ) → Balanced a b (sub_ℕ a b)
unfolding above below
sub_sides a b = go (ltb a b) refl
  where
    go : (t : Bool) → ltb a b ≡ t → Balanced a b (cond t (negsuc (b - suc a)) (pos (a - b)))
    go true e = omega (arith, ltb-true a b e)
    go false e = omega (arith, ltb-false a b e)

pub plus_sides : (y z : ℤ) → above (y +ℤ z) + (below y + below z) ≡ below (y +ℤ z) + (above y + above z)
unfolding above below
plus_sides (pos a) (pos b) = omega arith
plus_sides (pos a) (negsuc b) = omega (arith, sub_sides a (suc b))
plus_sides (negsuc a) (pos b) = omega (arith, sub_sides b (suc a))
plus_sides (negsuc a) (negsuc b) = omega arith

pub zero_sides : (above (pos 0) ≡ 0) × (below (pos 0) ≡ 0)
unfolding above below
zero_sides = (refl, refl)

neg_sides : (z : ℤ) → (above (neg_ℤ z) ≡ below z) × (below (neg_ℤ z) ≡ above z)
unfolding above below
neg_sides (pos zero) = (refl, refl)
neg_sides (pos (suc n)) = (refl, refl)
neg_sides (negsuc n) = (refl, refl)

pub minus_sides : (y z : ℤ) → above (y -ℤ z) + (below y + above z) ≡ below (y -ℤ z) + (above y + below z)
minus_sides y z = omega (arith, plus_sides y (neg_ℤ z), (neg_sides z).0, (neg_sides z).1)

-- ---- so many times the same

pub times_none : (z : ℤ) → pos 0 *ℤ z ≡ pos 0
times_none z = zero-*ℤ z

pub times_more : (n : ℕ) (z : ℤ) → pos (suc n) *ℤ z ≡ z +ℤ pos n *ℤ z
times_more n z = suc_ℤ-*ℤ (pos n) z ∙ +ℤ_comm (pos n *ℤ z) z

-- ---- the better of two

module _ (y z : ℤ) where
  pub lesser_first : Under (lesser y z) y
  lesser_first = go (lt_z z y) refl
    where
      go : (t : Bool) → lt_z z y ≡ t → Under (cond t z y) y
      go true e = omega (arith, less_under z y e)
      go false e = omega arith

  pub lesser_second : Under (lesser y z) z
  lesser_second = go (lt_z z y) refl
    where
      go : (t : Bool) → lt_z z y ≡ t → Under (cond t z y) z
      go true e = omega arith
      go false e = not_less_under z y e

  pub greater_first : Under y (greater y z)
  greater_first = go (lt_z y z) refl
    where
      go : (t : Bool) → lt_z y z ≡ t → Under y (cond t z y)
      go true e = omega (arith, less_under y z e)
      go false e = omega arith

  pub greater_second : Under z (greater y z)
  greater_second = go (lt_z y z) refl
    where
      go : (t : Bool) → lt_z y z ≡ t → Under z (cond t z y)
      go true e = omega arith
      go false e = not_less_under y z e

  pub lesser_is_first : Under y z → lesser y z ≡ y
  lesser_is_first h = rw (under_not_less z y h)

  pub greater_is_first : Under z y → greater y z ≡ y
  greater_is_first h = rw (under_not_less y z h)

  pub greater_is_second : Under y z → greater y z ≡ z
  greater_is_second h = go (lt_z y z) refl
    where
      go : (t : Bool) → lt_z y z ≡ t → cond t z y ≡ z
      go true e = refl
      go false e = under_same y z h (not_less_under y z e)

  -- the greater of two and something that is no more than either are no more than both; and the other way about
  pub greater_over : (l : ℤ) → Under l y → Under l z → Under (greater y z +ℤ l) (y +ℤ z)
  greater_over l h k = go (lt_z y z)
    where
      go : (t : Bool) → Under (cond t z y +ℤ l) (y +ℤ z)
      go true = omega (arith, plus_sides z l, plus_sides y z)
      go false = omega (arith, plus_sides y l, plus_sides y z)

  pub lesser_under : (g : ℤ) → Under y g → Under z g → Under (y +ℤ z) (lesser y z +ℤ g)
  lesser_under g h k = go (lt_z z y)
    where
      go : (t : Bool) → Under (y +ℤ z) (cond t z y +ℤ g)
      go true = omega (arith, plus_sides z g, plus_sides y z)
      go false = omega (arith, plus_sides y g, plus_sides y z)
