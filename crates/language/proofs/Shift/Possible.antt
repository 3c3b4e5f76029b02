-- Which reports are possible. A report is possible exactly when some outcomes have it: at most as many as a shift may have
-- lines, each of them bad, or one of the nine stops, or paid an int (R14.6). `report_possible` shows that the report of such
-- outcomes is possible, `possible_came` that a possible report is that of some.
use lib.Dec.{leb}
use lib.IntN.{ℤ, pos, negsuc, ◌+ℤ◌, ◌*ℤ◌}
use lib.ListN.{length}
use lib.Signed.{mag, lt_z, le_z}
use mathlib.Core.Bool.{Bool, true, false, cond, ◌&&◌}
use mathlib.Core.List.{List, [], ◌∷◌}
use mathlib.Core.Path.{◌≡◌, refl, sym, ap, subst, ◌∙◌}
use borrow.Author.Tests.{le-leb, leb-true, eqb-true}
use native.Mathlib.Omega.{arith}
use Prim.Native.Nat.{ℕ, zero, suc, ◌+◌, ◌*◌, ◌^◌, ◌≤◌}
use Rattle.language.specs.Sizes.{LINES, LARGEST}
use Rattle.language.specs.State as State
use Rattle.language.specs.Meaning.{in_range, is_zero}
use Rattle.language.specs.Shift.{Outcome, bad, stopped, paid, tally, is_bad, is_stop, pays, total, lesser, greater, chosen_from, chosen}
use Rattle.language.specs.Shift.{Report, report_of}
use Rattle.language.specs.Combining.{all_stops, paid_lines, payable, possible}
use Rattle.language.proofs.Text.Choices.{clash, and_both}
use Rattle.language.proofs.Shift.Totals.{AllInRange, all_none, all_more, range_mag, total_mag}
use Rattle.language.proofs.Shift.Joins.{stops_in, each_counted, paid_counted}
use Rattle.language.proofs.Shift.Sides.{above, below, le_under, under_le}
use Rattle.language.proofs.Shift.Spread.{Each, each_none, each_more, Within, least_first, least_each, largest_first, largest_each}
use Rattle.language.proofs.Shift.Spread.{sum_over, sum_under, spread}

-- outcomes that are few enough, and their pays ints
pub record Few (os : List Outcome) : Type 0 where
  pub few : length os ≤ LINES
  pub ints : AllInRange (pays os)

-- some outcomes that come to this report
pub record Came (r : Report) : Type 0 where
  pub outcomes : List Outcome
  pub real : Few outcomes
  pub reported : report_of outcomes ≡ r

-- ---- every report of outcomes is possible

lesser_range : (y z : ℤ) → in_range y ≡ true → in_range z ≡ true → in_range (lesser y z) ≡ true
lesser_range y z h k = go (lt_z z y)
  where
    go : (t : Bool) → in_range (cond t z y) ≡ true
    go true = k
    go false = h

greater_range : (y z : ℤ) → in_range y ≡ true → in_range z ≡ true → in_range (greater y z) ≡ true
greater_range y z h k = go (lt_z y z)
  where
    go : (t : Bool) → in_range (cond t z y) ≡ true
    go true = k
    go false = h

module _ (f : ℤ → ℤ → ℤ) (c : (y z : ℤ) → in_range y ≡ true → in_range z ≡ true → in_range (f y z) ≡ true) where
  from_range : (y : ℤ) {zs : List ℤ} → in_range y ≡ true → AllInRange zs → in_range (chosen_from f y zs) ≡ true
  unfolding chosen_from
  from_range y h all_none = h
  from_range y h (all_more {z} r rs) = from_range (f y z) (c y z h r) rs

  chosen_size : {zs : List ℤ} → AllInRange zs → mag (chosen f zs) ≤ LARGEST
  unfolding chosen
  chosen_size all_none = omega arith
  chosen_size (all_more {z} r rs) = range_mag _ (from_range z r rs)

five : {a b c d e : Bool} → a ≡ true → b ≡ true → c ≡ true → d ≡ true → e ≡ true → (a && (b && (c && (d && e)))) ≡ true
five p q r s t = rw (p, q, r, s, t)

pays_payable : {zs : List ℤ} → AllInRange zs → payable (length zs) (total zs) (chosen lesser zs) (chosen greater zs) ≡ true
unfolding payable total chosen is_zero
pays_payable all_none = refl
pays_payable (all_more {z = y} {zs} h hs) =
    let l = chosen_from lesser y zs in
    let g = chosen_from greater y zs in
    let low = least_first y zs in
    let high = largest_first y zs in
    let order : le_z l g ≡ true = under_le l g (omega (arith, low, high)) in
    let over = under_le (g +ℤ pos (length zs) *ℤ l) (y +ℤ total zs) (sum_over l y zs low (least_each y zs)) in
    let under = under_le (y +ℤ total zs) (l +ℤ pos (length zs) *ℤ g) (sum_under g y zs high (largest_each y zs)) in
    five (from_range lesser lesser_range y h hs) (from_range greater greater_range y h hs) order over under

pub report_possible : {os : List Outcome} → Few os → possible (report_of os) ≡ true
unfolding possible report_of
report_possible {os} h =
    let others : tally is_bad os + stops_in os ≤ length os = omega (arith, each_counted os) in
    rw (le-leb _ _ h.few, le-leb _ _ others, paid_counted os) (pays_payable h.ints)

pub came_possible : {r : Report} → Came r → possible r ≡ true
came_possible c = subst (λ (r : Report). possible r ≡ true) c.reported (report_possible c.real)

-- ---- the pays of a possible report

pub record Payments (n : ℕ) (s l g : ℤ) : Type 0 where
  pub paid : List ℤ
  pub many : length paid ≡ n
  pub ints : AllInRange paid
  pub sum : total paid ≡ s
  pub least : chosen lesser paid ≡ l
  pub largest : chosen greater paid ≡ g

zero_is : (z : ℤ) → is_zero z ≡ true → pos 0 ≡ z
unfolding is_zero
zero_is (pos n) e = ap pos (sym (eqb-true n 0 e))
zero_is (negsuc n) e = absurd (clash e refl)

-- what lies between two ints is one
between_range : (l g z : ℤ) → in_range l ≡ true → in_range g ≡ true → Within l g z → in_range z ≡ true
unfolding in_range above below
between_range l (pos g) (pos z) p q h = le-leb z LARGEST (omega (arith, leb-true g LARGEST q, h.high))
between_range l (negsuc g) (pos z) p q h = absurd (omega (arith, h.high))
between_range (pos l) g (negsuc z) p q h = absurd (omega (arith, h.low))
between_range (negsuc l) g (negsuc z) p q h = le-leb z LARGEST (omega (arith, leb-true l LARGEST p, h.low))

all_between : (l g : ℤ) {zs : List ℤ} → in_range l ≡ true → in_range g ≡ true → Each (Within l g) zs → AllInRange zs
all_between l g p q each_none = all_none
all_between l g p q (each_more {z} h hs) = all_more (between_range l g z p q h) (all_between l g p q hs)

pub payments : (n : ℕ) (s l g : ℤ) → payable n s l g ≡ true → Payments n s l g
unfolding payable total chosen
payments zero s l g e =
    let a = and_both (is_zero s) _ e in
    let b = and_both (is_zero l) _ a.1 in
    record {
      paid = [];
      many = refl;
      ints = all_none;
      sum = zero_is s a.0;
      least = zero_is l b.0;
      largest = zero_is g b.1;
    }
payments (suc n) s l g e =
    let a = and_both (in_range l) _ e in
    let b = and_both (in_range g) _ a.1 in
    let c = and_both (le_z l g) _ b.1 in
    let d = and_both (le_z (g +ℤ pos n *ℤ l) s) _ c.1 in
    let x = spread n s l g (le_under l g c.0) (le_under _ _ d.0) (le_under _ _ d.1) in
    record {
      paid = x.pays;
      many = x.many;
      ints = all_between l g a.0 b.0 x.within;
      sum = x.sum;
      least = x.least;
      largest = x.largest;
    }

-- ---- some outcomes for it

abbrev many : ℕ → Outcome → List Outcome → List Outcome
many zero o os = os
many (suc n) o os = o ∷ many n o os

many_tally : (f : Outcome → Bool) (n : ℕ) (o : Outcome) (os : List Outcome) → tally f (many n o os) ≡ cond (f o) n 0 + tally f os
unfolding tally
many_tally f n o os = go (f o) n refl
  where
    go : (t : Bool) (n : ℕ) → f o ≡ t → tally f (many n o os) ≡ cond t n 0 + tally f os
    go true zero e = omega arith
    go false zero e = omega arith
    go true (suc n) e = rw e (omega (arith, go true n e))
    go false (suc n) e = rw e (omega (arith, go false n e))

bad_unpaid : (n : ℕ) (os : List Outcome) → pays (many n bad os) ≡ pays os
unfolding pays
bad_unpaid zero os = refl
bad_unpaid (suc n) os = bad_unpaid n os

stop_unpaid : (n : ℕ) (s : State.Stop) (os : List Outcome) → pays (many n (stopped s) os) ≡ pays os
unfolding pays
stop_unpaid zero s os = refl
stop_unpaid (suc n) s os = stop_unpaid n s os

abbrev all_paid : List ℤ → List Outcome
all_paid [] = []
all_paid (z ∷ zs) = paid z ∷ all_paid zs

paid_pays : (zs : List ℤ) → pays (all_paid zs) ≡ zs
unfolding pays
paid_pays [] = refl
paid_pays (z ∷ zs) = ap (λ (l : List ℤ). z ∷ l) (paid_pays zs)

paid_not_bad : (zs : List ℤ) → tally is_bad (all_paid zs) ≡ 0
unfolding tally
paid_not_bad [] = refl
paid_not_bad (z ∷ zs) = omega (arith, paid_not_bad zs)

paid_not_stopped : (s : State.Stop) (zs : List ℤ) → tally (is_stop s) (all_paid zs) ≡ 0
unfolding tally
paid_not_stopped s [] = refl
paid_not_stopped s (z ∷ zs) = omega (arith, paid_not_stopped s zs)

module _ (n : State.Stop → ℕ) where
  abbrev more : State.Stop → List Outcome → List Outcome
  more s os = many (n s) (stopped s) os

  abbrev all_stopped : List Outcome → List Outcome
  all_stopped os =
      more State.no_unit
      (more State.too_deep
      (more State.out_of_range
      (more State.zero_divisor
      (more State.cell_freed (more State.cells_full (more State.not_a_byte (more State.output_full (more State.zero_step os))))))))

  stopped_pays : (os : List Outcome) → pays (all_stopped os) ≡ pays os
  stopped_pays os = simp stop_unpaid

  stopped_tally : (f : Outcome → Bool) (os : List Outcome) → tally f (all_stopped os)
      ≡ cond (f (stopped State.no_unit)) (n State.no_unit) 0
      + (cond (f (stopped State.too_deep)) (n State.too_deep) 0
      + (cond (f (stopped State.out_of_range)) (n State.out_of_range) 0
      + (cond (f (stopped State.zero_divisor)) (n State.zero_divisor) 0
      + (cond (f (stopped State.cell_freed)) (n State.cell_freed) 0
      + (cond (f (stopped State.cells_full)) (n State.cells_full) 0
      + (cond (f (stopped State.not_a_byte)) (n State.not_a_byte) 0
      + (cond (f (stopped State.output_full)) (n State.output_full) 0
      + (cond (f (stopped State.zero_step)) (n State.zero_step) 0 + tally f os))))))))
  stopped_tally f os = simp many_tally

module _ (r : Report) (zs : List ℤ) where
  abbrev came : List Outcome
  came = many r.bad bad (all_stopped r.stops (all_paid zs))

  came_pays : pays came ≡ zs
  came_pays = bad_unpaid r.bad _ ∙ stopped_pays r.stops (all_paid zs) ∙ paid_pays zs

  came_bad : tally is_bad came ≡ r.bad
  came_bad =
      let rest = many_tally is_bad r.bad bad (all_stopped r.stops (all_paid zs)) in
      omega (arith, rest, stopped_tally r.stops is_bad (all_paid zs), paid_not_bad zs)

  module _ (s : State.Stop) where
    rest_told : tally (is_stop s) came ≡ 0 + tally (is_stop s) (all_stopped r.stops (all_paid zs))
    rest_told = many_tally (is_stop s) r.bad bad (all_stopped r.stops (all_paid zs))

    stops_told : tally (is_stop s) (all_stopped r.stops (all_paid zs)) ≡ all_stops (λ t. cond (is_stop s (stopped t)) (r.stops t) 0)
    unfolding all_stops
    stops_told = omega (arith, stopped_tally r.stops (is_stop s) (all_paid zs), paid_not_stopped s zs)

  came_stops : (s : State.Stop) → tally (is_stop s) came ≡ r.stops s
  unfolding all_stops
  came_stops State.no_unit = omega (arith, rest_told State.no_unit, stops_told State.no_unit)
  came_stops State.too_deep = omega (arith, rest_told State.too_deep, stops_told State.too_deep)
  came_stops State.out_of_range = omega (arith, rest_told State.out_of_range, stops_told State.out_of_range)
  came_stops State.zero_divisor = omega (arith, rest_told State.zero_divisor, stops_told State.zero_divisor)
  came_stops State.cell_freed = omega (arith, rest_told State.cell_freed, stops_told State.cell_freed)
  came_stops State.cells_full = omega (arith, rest_told State.cells_full, stops_told State.cells_full)
  came_stops State.not_a_byte = omega (arith, rest_told State.not_a_byte, stops_told State.not_a_byte)
  came_stops State.output_full = omega (arith, rest_told State.output_full, stops_told State.output_full)
  came_stops State.zero_step = omega (arith, rest_told State.zero_step, stops_told State.zero_step)

  came_all : stops_in came ≡ all_stops r.stops
  came_all = ap all_stops (λ i s. came_stops s i)

  came_long : length came ≡ r.bad + all_stops r.stops + length zs
  came_long = omega (arith, each_counted came, came_bad, came_all, ap length came_pays)

-- ---- a possible report

-- what follows of one
pub record Possible (r : Report) : Type 0 where
  pub lines : r.lines ≤ LINES
  pub others : r.bad + all_stops r.stops ≤ r.lines
  pub pays : Payments (paid_lines r) r.sum r.least r.largest

pub possible_so : (r : Report) → possible r ≡ true → Possible r
unfolding possible
possible_so r e =
    let a = and_both (leb r.lines LINES) _ e in
    let b = and_both (leb (r.bad + all_stops r.stops) r.lines) _ a.1 in
    record { lines = leb-true _ _ a.0; others = leb-true _ _ b.0; pays = payments _ _ _ _ b.1 }

pub possible_came : (r : Report) → possible r ≡ true → Came r
unfolding report_of
possible_came r e =
    let p = possible_so r e in
    let zs = p.pays.paid in
    let long : length (came r zs) ≡ r.lines = omega (arith, came_long r zs, p.others, p.pays.many) in
    record {
      outcomes = came r zs;
      real = record { few = omega (arith, p.lines); ints = subst AllInRange (sym (came_pays r zs)) p.pays.ints };
      reported = λ i. record {
        lines = long i;
        bad = came_bad r zs i;
        stops = λ s. came_stops r zs s i;
        sum = (ap total (came_pays r zs) ∙ p.pays.sum) i;
        least = (ap (chosen lesser) (came_pays r zs) ∙ p.pays.least) i;
        largest = (ap (chosen greater) (came_pays r zs) ∙ p.pays.largest) i;
      };
    }

-- ---- how large its numbers are

module _ {r : Report} (p : Possible r) where
  pub sum_size : mag r.sum ≤ paid_lines r * 2 ^ 31
  sum_size = subst (λ (z : ℤ). mag z ≤ paid_lines r * 2 ^ 31) p.pays.sum (rw (sym p.pays.many) (total_mag p.pays.ints))

  pub least_size : mag r.least ≤ LARGEST
  least_size = subst (λ (z : ℤ). mag z ≤ LARGEST) p.pays.least (chosen_size lesser lesser_range p.pays.ints)

  pub largest_size : mag r.largest ≤ LARGEST
  largest_size = subst (λ (z : ℤ). mag z ≤ LARGEST) p.pays.largest (chosen_size greater greater_range p.pays.ints)
