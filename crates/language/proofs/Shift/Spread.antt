-- Which sums some pays can have, whose least and whose largest are given: the largest and the least for each of the others is
-- no more than their sum, the least and the largest for each of the others no less; and every sum between the two is one.
use lib.IntN.{ℤ, pos, ◌+ℤ◌, ◌-ℤ◌, ◌*ℤ◌, +ℤ_idr}
use lib.ListN.{length}
use lib.Signed.{lt_z}
use mathlib.Core.Bool.{Bool, true, false}
use mathlib.Core.List.{List, [], ◌∷◌}
use mathlib.Core.Path.{◌≡◌, refl, ap, subst, ◌∙◌}
use native.Mathlib.Omega.{arith}
use Prim.Native.Nat.{ℕ, zero, suc}
use Rattle.language.specs.Shift.{total, lesser, greater, chosen_from, chosen}
use Rattle.language.proofs.Shift.Sides.{Under, under_same, plus_sides, minus_sides, zero_sides, times_none, times_more}
use Rattle.language.proofs.Shift.Sides.{less_under, not_less_under, lesser_first, lesser_second, greater_first, greater_second}
use Rattle.language.proofs.Shift.Sides.{lesser_is_first, greater_is_first, greater_is_second, greater_over, lesser_under}

pub data Each (P : ℤ → Type 0) : List ℤ → Type 0 where
  each_none : Each P []
  each_more : {z : ℤ} {zs : List ℤ} → P z → Each P zs → Each P (z ∷ zs)

-- ---- the chosen ones are the least and the largest

pub least_first : (y : ℤ) (zs : List ℤ) → Under (chosen_from lesser y zs) y
unfolding chosen_from
least_first y [] = omega arith
least_first y (z ∷ zs) = omega (arith, least_first (lesser y z) zs, lesser_first y z)

pub least_each : (y : ℤ) (zs : List ℤ) → Each (Under (chosen_from lesser y zs)) zs
unfolding chosen_from
least_each y [] = each_none
least_each y (z ∷ zs) = each_more {z = z} (omega (arith, least_first (lesser y z) zs, lesser_second y z)) (least_each (lesser y z) zs)

pub largest_first : (y : ℤ) (zs : List ℤ) → Under y (chosen_from greater y zs)
unfolding chosen_from
largest_first y [] = omega arith
largest_first y (z ∷ zs) = omega (arith, largest_first (greater y z) zs, greater_first y z)

pub largest_each : (y : ℤ) (zs : List ℤ) → Each (λ z. Under z (chosen_from greater y zs)) zs
unfolding chosen_from
largest_each y [] = each_none
largest_each y (z ∷ zs) = each_more {z = z} (omega (arith, largest_first (greater y z) zs, greater_second y z)) (largest_each (greater y z) zs)

-- ---- no sum is outside

over_one : (l y : ℤ) → Under (y +ℤ pos 0 *ℤ l) (y +ℤ pos 0)
over_one l y = rw (times_none l) (omega arith)

over_step : (g k l y z b t : ℤ) → Under (g +ℤ k) (b +ℤ t) → Under (b +ℤ l) (y +ℤ z) → Under (g +ℤ (l +ℤ k)) (y +ℤ (z +ℤ t))
over_step g k l y z b t h j =
    omega (arith, plus_sides g k, plus_sides b t, plus_sides b l, plus_sides y z, plus_sides g (l +ℤ k), plus_sides l k, plus_sides y (z +ℤ t), plus_sides z t)

-- with a number that is no more than any of them
pub sum_over : (l y : ℤ) (zs : List ℤ) → Under l y → Each (Under l) zs → Under (chosen_from greater y zs +ℤ pos (length zs) *ℤ l) (y +ℤ total zs)
unfolding chosen_from total
sum_over l y [] h each_none = over_one l y
sum_over l y (z ∷ zs) h (each_more k ks) =
    let j = sum_over l (greater y z) zs (omega (arith, greater_first y z)) ks in
    rw (times_more (length zs) l)
    (over_step (chosen_from greater (greater y z) zs) (pos (length zs) *ℤ l) l y z (greater y z) (total zs) j (greater_over y z l h k))

under_one : (g y : ℤ) → Under (y +ℤ pos 0) (y +ℤ pos 0 *ℤ g)
under_one g y = rw (times_none g) (omega arith)

under_step : (l k g y z b t : ℤ) → Under (b +ℤ t) (l +ℤ k) → Under (y +ℤ z) (b +ℤ g) → Under (y +ℤ (z +ℤ t)) (l +ℤ (g +ℤ k))
under_step l k g y z b t h j =
    omega (arith, plus_sides l k, plus_sides b t, plus_sides b g, plus_sides y z, plus_sides l (g +ℤ k), plus_sides g k, plus_sides y (z +ℤ t), plus_sides z t)

-- with one that is no less
pub sum_under : (g y : ℤ) (zs : List ℤ) → Under y g → Each (λ z. Under z g) zs → Under (y +ℤ total zs) (chosen_from lesser y zs +ℤ pos (length zs) *ℤ g)
unfolding chosen_from total
sum_under g y [] h each_none = under_one g y
sum_under g y (z ∷ zs) h (each_more k ks) =
    let j = sum_under g (lesser y z) zs (omega (arith, lesser_first y z)) ks in
    rw (times_more (length zs) g)
    (under_step (chosen_from lesser (lesser y z) zs) (pos (length zs) *ℤ g) g y z (lesser y z) (total zs) j (lesser_under y z g h k))

-- ---- every sum between is one

times_under : (n : ℕ) (l g : ℤ) → Under l g → Under (pos n *ℤ l) (pos n *ℤ g)
times_under zero l g h = rw (times_none l, times_none g) (omega arith)
times_under (suc n) l g h =
    rw (times_more n l, times_more n g)
    (omega (arith, times_under n l g h, plus_sides l (pos n *ℤ l), plus_sides g (pos n *ℤ g)))

pub record Within (l g z : ℤ) : Type 0 where
  pub low : Under l z
  pub high : Under z g

-- so many pays between the two, which add up to the sum
pub record Filled (n : ℕ) (l g s : ℤ) : Type 0 where
  pub pays : List ℤ
  pub many : length pays ≡ n
  pub within : Each (Within l g) pays
  pub sum : total pays ≡ s

sum_again : (s z : ℤ) → z +ℤ (s -ℤ z) ≡ s
sum_again s z =
    under_same (z +ℤ (s -ℤ z)) s (omega (arith, plus_sides z (s -ℤ z), minus_sides s z)) (omega (arith, plus_sides z (s -ℤ z), minus_sides s z))

-- the first of them: the largest, or less where the others have to have the least
module _ (l g s a b : ℤ) (p : Under l g) (q : Under a b) (h : Under (l +ℤ a) s) (k : Under s (g +ℤ b)) where
  pub record First : Type 0 where
    pub pay : ℤ
    pub within : Within l g pay
    pub low : Under a (s -ℤ pay)
    pub high : Under (s -ℤ pay) b

  pub first_pay : First
  first_pay = go (lt_z (s -ℤ a) g) refl
    where
      go : (t : Bool) → lt_z (s -ℤ a) g ≡ t → First
      go true e = record {
        pay = s -ℤ a;
        within = record { low = omega (arith, minus_sides s a, plus_sides l a); high = omega (arith, less_under (s -ℤ a) g e) };
        low = omega (arith, minus_sides s (s -ℤ a), minus_sides s a);
        high = omega (arith, minus_sides s (s -ℤ a), minus_sides s a);
      }
      go false e = record {
        pay = g;
        within = record { low = p; high = omega arith };
        low = omega (arith, minus_sides s g, minus_sides s a, not_less_under (s -ℤ a) g e);
        high = omega (arith, minus_sides s g, plus_sides g b);
      }

pub fill : (n : ℕ) (l g s : ℤ) → Under l g → Under (pos n *ℤ l) s → Under s (pos n *ℤ g) → Filled n l g s
unfolding total
fill zero l g s p h k =
    let a = rw (times_none l) at h in
    let b = rw (times_none g) at k in
    record { pays = []; many = refl; within = each_none; sum = under_same (pos 0) s a b }
fill (suc n) l g s p h k =
    let a = rw (times_more n l) at h in
    let b = rw (times_more n g) at k in
    let f = first_pay l g s (pos n *ℤ l) (pos n *ℤ g) p (times_under n l g p) a b in
    let r = fill n l g (s -ℤ f.pay) p f.low f.high in
    record {
      pays = f.pay ∷ r.pays;
      many = ap suc r.many;
      within = each_more f.within r.within;
      sum = ap (λ (t : ℤ). f.pay +ℤ t) r.sum ∙ sum_again s f.pay;
    }

-- ---- with the given least and largest

least_stays : (y : ℤ) {zs : List ℤ} → Each (Under y) zs → chosen_from lesser y zs ≡ y
unfolding chosen_from
least_stays y each_none = refl
least_stays y (each_more {z} {zs} h hs) = ap (λ (x : ℤ). chosen_from lesser x zs) (lesser_is_first y z h) ∙ least_stays y hs

largest_stays : (y : ℤ) {zs : List ℤ} → Each (λ z. Under z y) zs → chosen_from greater y zs ≡ y
unfolding chosen_from
largest_stays y each_none = refl
largest_stays y (each_more {z} {zs} h hs) = ap (λ (x : ℤ). chosen_from greater x zs) (greater_is_first y z h) ∙ largest_stays y hs

each_low : {l g : ℤ} {zs : List ℤ} → Each (Within l g) zs → Each (Under l) zs
each_low each_none = each_none
each_low (each_more h hs) = each_more h.low (each_low hs)

each_high : {l g : ℤ} {zs : List ℤ} → Each (Within l g) zs → Each (λ z. Under z g) zs
each_high each_none = each_none
each_high (each_more h hs) = each_more h.high (each_high hs)

-- some pays, one and the others, with this sum, this least and this largest
pub record Spread (others : ℕ) (s l g : ℤ) : Type 0 where
  pub pays : List ℤ
  pub many : length pays ≡ suc others
  pub within : Each (Within l g) pays
  pub sum : total pays ≡ s
  pub least : chosen lesser pays ≡ l
  pub largest : chosen greater pays ≡ g

two_low : (l g k s : ℤ) → Under (g +ℤ (l +ℤ k)) s → Under k (s -ℤ (l +ℤ g))
two_low l g k s h = omega (arith, plus_sides g (l +ℤ k), plus_sides l k, plus_sides l g, minus_sides s (l +ℤ g))

two_high : (l g k s : ℤ) → Under s (l +ℤ (g +ℤ k)) → Under (s -ℤ (l +ℤ g)) k
two_high l g k s h = omega (arith, plus_sides l (g +ℤ k), plus_sides g k, plus_sides l g, minus_sides s (l +ℤ g))

two_sum : (l g s t : ℤ) → t ≡ s -ℤ (l +ℤ g) → l +ℤ (g +ℤ t) ≡ s
two_sum l g s t e =
    rw e
    (under_same (l +ℤ (g +ℤ (s -ℤ (l +ℤ g)))) s
    (omega (arith, plus_sides l (g +ℤ (s -ℤ (l +ℤ g))), plus_sides g (s -ℤ (l +ℤ g)), minus_sides s (l +ℤ g), plus_sides l g))
    (omega (arith, plus_sides l (g +ℤ (s -ℤ (l +ℤ g))), plus_sides g (s -ℤ (l +ℤ g)), minus_sides s (l +ℤ g), plus_sides l g)))

pub spread : (others : ℕ) (s l g : ℤ) → Under l g → Under (g +ℤ pos others *ℤ l) s → Under s (l +ℤ pos others *ℤ g) → Spread others s l g
unfolding total chosen chosen_from
spread zero s l g p h k =
    let a = rw (times_none l) at h in
    let b = rw (times_none g) at k in
    let low : Under g s = omega (arith, plus_sides g (pos 0), zero_sides.0, zero_sides.1) in
    let high : Under s l = omega (arith, plus_sides l (pos 0), zero_sides.0, zero_sides.1) in
    let e : s ≡ l = under_same s l high (omega arith) in
    let f : s ≡ g = under_same s g (omega arith) low in
    record {
      pays = s ∷ [];
      many = refl;
      within = each_more record { low = subst (λ (z : ℤ). Under z s) e (omega arith); high = subst (λ (z : ℤ). Under s z) f (omega arith) } each_none;
      sum = +ℤ_idr s;
      least = e;
      largest = f;
    }
spread (suc n) s l g p h k =
    let a = rw (times_more n l) at h in
    let b = rw (times_more n g) at k in
    let f = fill n l g (s -ℤ (l +ℤ g)) p (two_low l g (pos n *ℤ l) s a) (two_high l g (pos n *ℤ g) s b) in
    record {
      pays = l ∷ g ∷ f.pays;
      many = ap (λ (n : ℕ). suc (suc n)) f.many;
      within = each_more {z = l} record { low = omega arith; high = p } (each_more {z = g} record { low = p; high = omega arith } f.within);
      sum = two_sum l g s (total f.pays) f.sum;
      least = least_stays l (each_more p (each_low f.within));
      largest = ap (λ (x : ℤ). chosen_from greater x f.pays) (greater_is_second l g p) ∙ largest_stays g (each_high f.within);
    }
