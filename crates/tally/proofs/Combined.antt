-- Laws over plain reports that the proofs of `tally::combining` cite.
use lib.Dec.{eqb}
use lib.IntN.{ℤ, ◌+ℤ◌}
use lib.ListN.{length, get_or}
use lib.Signed.{mag}
use mathlib.Core.Bool.{true, cond}
use mathlib.Core.List.{List}
use mathlib.Core.Path.{◌≡◌, refl, sym, ap, ap₂, ◌∙◌}
use borrow.Author.Tests.{leb-true}
use mir.Syntax.{w64}
use mir.Val.{SFits, to_z, of_z}
use native.Mathlib.Omega.{arith}
use Prim.Native.Nat.{ℕ, ◌+◌, ◌^◌, ◌≤◌, ◌<◌}
use mathlib.Core.List.{map}
use Rattle.std.specs.List.{range_with_len}
use Rattle.std.proofs.lemmas.List.FromFn.{fill_by_all}
use Rattle.language.specs.Sizes.{LINES}
use Rattle.language.specs.State as State
use Rattle.language.specs.Combining.{all_stops, paid_lines, possible, either_pay, both, addable}
use Rattle.language.specs.Shift.{lesser, greater, Report}
use Rattle.language.proofs.Text.Choices.{and_both}
use Rattle.language.proofs.Shift.Totals.{mag_plus}
use Rattle.language.proofs.Shift.Possible.{Possible, possible_so, sum_size}
use Rattle.tally.specs.Combining.{counts, nine_both, Both}
use Rattle.tally.specs.Stands.{report_in}
use Rattle.tally.specs.declared.sums.Sums.{Sums}
use Rattle.tally.proofs.Laws.{back}

-- ---- nine counts

-- all of them, by their places
nine_places : (l : List ℕ) → length l ≡ 9 → l ≡ map (λ i. get_or l i 0) (range_with_len 0 9)
nine_places l h = fill_by_all (λ i. get_or l i 0) l 9 0 h (λ k q. refl)

pub stops_added : (l : List ℕ) {x y z : ℕ} → x ≡ get_or l 0 0 + get_or l 1 0 + get_or l 2 0 → y ≡ get_or l 3 0 + get_or l 4 0 + get_or l 5 0
    → z ≡ get_or l 6 0 + get_or l 7 0 + get_or l 8 0 → x + y + z ≡ all_stops (counts l)
unfolding all_stops
stops_added l ex ey ez = omega (arith, ex, ey, ez)

-- each is one of all
nine_cases : (f : ℕ → ℕ) (k : ℕ) → k < 9 → f k ≤ f 0 + (f 1 + (f 2 + (f 3 + (f 4 + (f 5 + (f 6 + (f 7 + f 8)))))))
nine_cases f k h = grind arith

one_of_all : (l : List ℕ) (k : ℕ) → k < 9 → get_or l k 0 ≤ all_stops (counts l)
unfolding all_stops
one_of_all l k h = omega (arith, nine_cases (λ (i : ℕ). get_or l i 0) k h)

pub each_few : (a b : List ℕ) (k : ℕ) → all_stops (counts a) + all_stops (counts b) ≤ LINES → k < 9 → get_or a k 0 + get_or b k 0 ≤ LINES
each_few a b k h l = omega (arith, one_of_all a k l, one_of_all b k l)

nine_each : (a b : List ℕ) (w : State.Stop) → counts (nine_both a b) w ≡ counts a w + counts b w
nine_each a b State.no_unit = refl
nine_each a b State.too_deep = refl
nine_each a b State.out_of_range = refl
nine_each a b State.zero_divisor = refl
nine_each a b State.cell_freed = refl
nine_each a b State.cells_full = refl
nine_each a b State.not_a_byte = refl
nine_each a b State.output_full = refl
nine_each a b State.zero_step = refl

-- ---- two of them

module _ (r q : Report) where
  pub record Addable : Type 0 where
    pub first : Possible r
    pub second : Possible q
    pub lines : r.lines + q.lines ≤ LINES

  pub addable_so : addable r q ≡ true → Addable
  unfolding addable
  addable_so e =
      let a = and_both (possible r) _ e in
      let b = and_both (possible q) _ a.1 in
      record { first = possible_so r a.0; second = possible_so q b.0; lines = leb-true _ _ b.1 }

  module _ (h : addable r q ≡ true) where
    pub lines_few : r.lines + q.lines ≤ LINES
    lines_few = (addable_so h).lines

    pub bad_few : r.bad + q.bad ≤ LINES
    bad_few = let a = addable_so h in omega (arith, a.lines, a.first.others, a.second.others)

    pub stops_few : all_stops r.stops + all_stops q.stops ≤ LINES
    stops_few = let a = addable_so h in omega (arith, a.lines, a.first.others, a.second.others)

    pub paid_few : paid_lines r + paid_lines q ≤ LINES
    paid_few = let a = addable_so h in omega (arith, a.lines)

    pub sum_few : mag r.sum + mag q.sum < 281474976710656
    sum_few = let a = addable_so h in omega (arith, sum_size a.first, sum_size a.second, paid_few)

-- ---- pays

pub sum_fits : (a b : ℤ) → mag a + mag b < 281474976710656 → SFits w64 (a +ℤ b)
sum_fits a b h = record { sfits = omega (arith, mag_plus a b) }

-- what is told of two parts, each number read from its bits
pub pay_picked : (f : ℤ → ℤ → ℤ) (y z : ℤ) {n m p q : ℕ} {x r : ℤ} → n ≡ p → m ≡ q → mag y < 2 ^ 63 → mag z < 2 ^ 63
    → x ≡ f (to_z w64 (of_z w64 y)) (to_z w64 (of_z w64 z)) → mag x < 2 ^ 63 → mag r < 2 ^ 63
    → r ≡ cond (eqb n 0) (to_z w64 (of_z w64 z)) (cond (eqb m 0) (to_z w64 (of_z w64 y)) (to_z w64 (of_z w64 x)))
    → to_z w64 (of_z w64 r) ≡ either_pay f p y q z
unfolding either_pay
pay_picked f y z {x = x} {r = r} en em hy hz ex hx hr e =
    back {z = r} hr ∙ e ∙ rw (back {z = x} hx, ex, back {z = y} hy, back {z = z} hz, en, em)

-- ---- the whole

joined : (a b : Sums) (n k p : ℕ) (stops : List ℕ) (s l g : ℤ) → n ≡ a.lines + b.lines → k ≡ a.bad + b.bad → stops ≡ nine_both a.stops b.stops
    → s ≡ a.sum +ℤ b.sum
    → l ≡ either_pay lesser (paid_lines (report_in a)) a.least (paid_lines (report_in b)) b.least
    → g ≡ either_pay greater (paid_lines (report_in a)) a.largest (paid_lines (report_in b)) b.largest
    → report_in (record { lines = n; bad = k; stops = stops; paid = p; sum = s; least = l; largest = g }) ≡ both (report_in a) (report_in b)
unfolding both
joined a b n k p stops s l g en ek et es el eg =
    let e : (w : State.Stop) → counts stops w ≡ counts a.stops w + counts b.stops w =
    λ w. ap (λ (c : List ℕ). counts c w) et ∙ nine_each a.stops b.stops w in
    λ i. record { lines = en i; bad = ek i; stops = λ w. e w i; sum = es i; least = el i; largest = eg i }

-- how many are paid in both
pub paid_both : (r q : Report) → addable r q ≡ true → paid_lines r + paid_lines q ≡ paid_lines (both r q)
unfolding both all_stops
paid_both r q h =
    let a = addable_so r q h in
    omega (arith, a.first.others, a.second.others)

pub all_joined : (a b : Sums) → addable (report_in a) (report_in b) ≡ true → (n k p : ℕ) (stops : List ℕ) (s l g : ℤ) {i j : ℕ} → n ≡ a.lines + b.lines
    → k ≡ a.bad + b.bad → stops ≡ nine_both a.stops b.stops → p ≡ i + j → i ≡ paid_lines (report_in a) → j ≡ paid_lines (report_in b)
    → s ≡ a.sum +ℤ b.sum
    → l ≡ either_pay lesser (paid_lines (report_in a)) a.least (paid_lines (report_in b)) b.least
    → g ≡ either_pay greater (paid_lines (report_in a)) a.largest (paid_lines (report_in b)) b.largest
    → Both a b record { lines = n; bad = k; stops = stops; paid = p; sum = s; least = l; largest = g }
all_joined a b h n k p stops s l g en ek et ep ei ej es el eg =
    let e = joined a b n k p stops s l g en ek et es el eg in
    record {
      reports = e;
      paid = ep ∙ ap₂ ◌+◌ ei ej ∙ paid_both (report_in a) (report_in b) h ∙ sym (ap paid_lines e);
      nine = ap length et;
    }
