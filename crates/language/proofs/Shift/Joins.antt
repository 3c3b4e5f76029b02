-- The report of two lists of outcomes one behind the other is both their reports (R14.6).
use lib.IntN.{ℤ, pos, negsuc, ◌+ℤ◌, +ℤ_assoc, +ℤ_idl}
use lib.ListN.{length, length-append}
use lib.Signed.{lt_z}
use mathlib.Core.Bool.{Bool, true, false, cond}
use mathlib.Core.List.{List, [], ◌∷◌, ◌++◌, append-nil}
use mathlib.Core.Path.{◌≡◌, refl, sym, ap, ◌∙◌}
use borrow.Author.Tests.{lt-ltb, le-ltb, ltb-true, ltb-false, ne_eqb}
use native.Mathlib.Omega.{arith}
use Prim.Native.Nat.{ℕ, suc, ◌+◌}
use Rattle.language.specs.State as State
use Rattle.language.specs.Shift.{Outcome, bad, stopped, paid, tally, is_bad, is_stop, pays, total, lesser, greater, chosen_from, chosen}
use Rattle.language.specs.Shift.{report_of}
use Rattle.language.specs.Combining.{all_stops, paid_lines, either_pay, both, no_report}
use Rattle.language.proofs.Text.Choices.{clash}

-- ---- counts

pub tally_join : (f : Outcome → Bool) (os ps : List Outcome) → tally f (os ++ ps) ≡ tally f os + tally f ps
unfolding tally
tally_join f [] ps = omega arith
tally_join f (o ∷ os) ps = omega (arith, tally_join f os ps)

pub pays_join : (os ps : List Outcome) → pays (os ++ ps) ≡ pays os ++ pays ps
unfolding pays
pays_join [] ps = refl
pays_join (bad ∷ os) ps = pays_join os ps
pays_join (stopped s ∷ os) ps = pays_join os ps
pays_join (paid z ∷ os) ps = ap (λ (zs : List ℤ). z ∷ zs) (pays_join os ps)

total_join : (zs ys : List ℤ) → total (zs ++ ys) ≡ total zs +ℤ total ys
unfolding total
total_join [] ys = sym (+ℤ_idl (total ys))
total_join (z ∷ zs) ys = ap (λ (x : ℤ). z +ℤ x) (total_join zs ys) ∙ sym (+ℤ_assoc z (total zs) (total ys))

abbrev pub stops_in : List Outcome → ℕ
stops_in os = all_stops (λ s. tally (is_stop s) os)

-- each line is bad, or stopped, or paid
pub each_counted : (os : List Outcome) → length os ≡ tally is_bad os + stops_in os + length (pays os)
unfolding tally pays all_stops
each_counted [] = omega arith
each_counted (bad ∷ os) = omega (arith, each_counted os)
each_counted (paid z ∷ os) = omega (arith, each_counted os)
each_counted (stopped State.no_unit ∷ os) = omega (arith, each_counted os)
each_counted (stopped State.too_deep ∷ os) = omega (arith, each_counted os)
each_counted (stopped State.out_of_range ∷ os) = omega (arith, each_counted os)
each_counted (stopped State.zero_divisor ∷ os) = omega (arith, each_counted os)
each_counted (stopped State.cell_freed ∷ os) = omega (arith, each_counted os)
each_counted (stopped State.cells_full ∷ os) = omega (arith, each_counted os)
each_counted (stopped State.not_a_byte ∷ os) = omega (arith, each_counted os)
each_counted (stopped State.output_full ∷ os) = omega (arith, each_counted os)
each_counted (stopped State.zero_step ∷ os) = omega (arith, each_counted os)

pub paid_counted : (os : List Outcome) → paid_lines (report_of os) ≡ length (pays os)
unfolding report_of
paid_counted os = omega (arith, each_counted os)

-- ---- the better of two, whichever are compared first

abbrev better : (ℤ → ℤ → Bool) → ℤ → ℤ → ℤ
better t y z = cond (t y z) z y

record Ordered (t : ℤ → ℤ → Bool) : Type 0 where
  up : (x y z : ℤ) → t x y ≡ true → t y z ≡ true → t x z ≡ true
  down : (x y z : ℤ) → t x y ≡ false → t y z ≡ false → t x z ≡ false

less_up : (x y z : ℤ) → lt_z x y ≡ true → lt_z y z ≡ true → lt_z x z ≡ true
less_up (pos x) (pos y) (pos z) e f = lt-ltb x z (omega (arith, ltb-true x y e, ltb-true y z f))
less_up (pos x) (pos y) (negsuc z) e f = f
less_up (pos x) (negsuc y) z e f = absurd (clash e refl)
less_up (negsuc x) y (pos z) e f = refl
less_up (negsuc x) (pos y) (negsuc z) e f = absurd (clash f refl)
less_up (negsuc x) (negsuc y) (negsuc z) e f = lt-ltb z x (omega (arith, ltb-true y x e, ltb-true z y f))

less_down : (x y z : ℤ) → lt_z x y ≡ false → lt_z y z ≡ false → lt_z x z ≡ false
less_down (pos x) (pos y) (pos z) e f = le-ltb x z (omega (arith, ltb-false x y e, ltb-false y z f))
less_down (pos x) y (negsuc z) e f = refl
less_down (pos x) (negsuc y) (pos z) e f = absurd (clash refl f)
less_down (negsuc x) (pos y) z e f = absurd (clash refl e)
less_down (negsuc x) (negsuc y) (pos z) e f = f
less_down (negsuc x) (negsuc y) (negsuc z) e f = le-ltb z x (omega (arith, ltb-false y x e, ltb-false z y f))

upward : Ordered lt_z
upward = record { up = less_up; down = less_down }

downward : Ordered (λ y z. lt_z z y)
downward = record { up = λ x y z e f. less_up z y x f e; down = λ x y z e f. less_down z y x f e }

better_assoc : {t : ℤ → ℤ → Bool} → Ordered t → (x y z : ℤ) → better t (better t x y) z ≡ better t x (better t y z)
better_assoc {t} o x y z = go (t x y) (t y z) refl refl
  where
    go : (a b : Bool) → t x y ≡ a → t y z ≡ b → better t (better t x y) z ≡ better t x (better t y z)
    go true true e f = rw (e, f, o.up x y z e f)
    go true false e f = rw (e, f, e)
    go false true e f = rw (e, f)
    go false false e f = rw (e, f, e, o.down x y z e f)

module _ {t : ℤ → ℤ → Bool} (o : Ordered t) where
  from_after : (y x : ℤ) (zs : List ℤ) → chosen_from (better t) (better t y x) zs ≡ better t y (chosen_from (better t) x zs)
  unfolding chosen_from
  from_after y x [] = refl
  from_after y x (z ∷ zs) = ap (λ (w : ℤ). chosen_from (better t) w zs) (better_assoc o y x z) ∙ from_after y (better t x z) zs

  from_join : (y : ℤ) (zs : List ℤ) (x : ℤ) (xs : List ℤ)
      → chosen_from (better t) y (zs ++ (x ∷ xs)) ≡ better t (chosen_from (better t) y zs) (chosen_from (better t) x xs)
  unfolding chosen_from
  from_join y [] x xs = from_after y x xs
  from_join y (z ∷ zs) x xs = from_join (better t y z) zs x xs

  chosen_join : (zs ys : List ℤ)
      → chosen (better t) (zs ++ ys) ≡ either_pay (better t) (length zs) (chosen (better t) zs) (length ys) (chosen (better t) ys)
  unfolding chosen either_pay
  chosen_join [] ys = refl
  chosen_join (z ∷ zs) [] = rw (ne_eqb (suc (length zs)) 0 (λ e. omega arith), append-nil zs)
  chosen_join (z ∷ zs) (y ∷ ys) =
      rw (ne_eqb (suc (length zs)) 0 (λ e. omega arith), ne_eqb (suc (length ys)) 0 (λ e. omega arith)) (from_join z zs y ys)

-- ---- reports

pub report_join : (os ps : List Outcome) → report_of (os ++ ps) ≡ both (report_of os) (report_of ps)
unfolding report_of both
report_join os ps =
    let e = pays_join os ps in
    let l : chosen lesser (pays (os ++ ps)) ≡
    either_pay lesser (paid_lines (report_of os)) (chosen lesser (pays os)) (paid_lines (report_of ps)) (chosen lesser (pays ps)) =
    rw (e, paid_counted os, paid_counted ps) (chosen_join downward (pays os) (pays ps)) in
    let g : chosen greater (pays (os ++ ps)) ≡
    either_pay greater (paid_lines (report_of os)) (chosen greater (pays os)) (paid_lines (report_of ps)) (chosen greater (pays ps)) =
    rw (e, paid_counted os, paid_counted ps) (chosen_join upward (pays os) (pays ps)) in
    λ i. record {
      lines = length-append os ps i;
      bad = tally_join is_bad os ps i;
      stops = λ s. tally_join (is_stop s) os ps i;
      sum = (ap total e ∙ total_join (pays os) (pays ps)) i;
      least = l i;
      largest = g i;
    }

-- that of nothing
pub report_none : report_of [] ≡ no_report
unfolding report_of tally pays total chosen
report_none = refl
