-- What one outcome more adds to a report; and that the sum of all the pays is exact in 64 bits (R14.6).
use lib.Dec.{eqb, ltb}
use lib.IntN.{ℤ, pos, negsuc, sub_ℕ, ◌+ℤ◌, +ℤ_assoc, +ℤ_idr, +ℤ_idl}
use lib.ListN.{length, length-take}
use lib.Signed.{mag}
use mathlib.Core.Bool.{Bool, true, false, cond}
use mathlib.Core.List.{List, [], ◌∷◌, ◌++◌}
use mathlib.Core.Logic.{inl, inr}
use mathlib.Core.Option.{Option}
use mathlib.Core.Path.{◌≡◌, refl, sym, ap, subst, ◌∙◌}
use borrow.Author.Tests.{leb-true, ne_eqb}
use native.Mathlib.Nat.{add_assoc}
use native.Mathlib.Omega.{arith}
use Prim.Native.Nat.{ℕ, suc, ◌+◌, ◌-◌, ◌*◌, ◌^◌, ◌≤◌, ◌<◌}
use Rattle.language.specs.Sizes.{LINES, LARGEST}
use Rattle.language.specs.State.{Value, number}
use Rattle.language.specs.Meaning.{in_range}
use Rattle.language.specs.Numbers.{Told, passed}
use Rattle.language.specs.Answers.{Lent}
use Rattle.language.specs.Shift.{Line, lines, Outcome, bad, stopped, paid, runs_to_stop, runs_to_pay, Comes, comes_bad, comes_run}
use Rattle.language.specs.Shift.{AllCome, none_comes, one_comes, tally, pay_before, pays, total, chosen_from, chosen, Report, report_of}
use Rattle.language.specs.Shift.{ShiftRefusal, Shift}
use Rattle.language.proofs.Shift.LineOutcomes.{Admitted, Ended, job_written, never_refused, passed_stop, one_number}

-- ---- one more

pub tally_more : (f : Outcome → Bool) (os : List Outcome) (o : Outcome) → tally f (os ++ (o ∷ [])) ≡ tally f os + cond (f o) 1 0
unfolding tally
tally_more f [] o = omega arith
tally_more f (p ∷ os) o = ap (λ (n : ℕ). cond (f p) 1 0 + n) (tally_more f os o) ∙ sym (add_assoc (cond (f p) 1 0) (tally f os) (cond (f o) 1 0))

pub pays_more : (os : List Outcome) (o : Outcome) → pays (os ++ (o ∷ [])) ≡ pays os ++ pay_before o []
unfolding pays
pays_more [] o = refl
pays_more (bad ∷ os) o = pays_more os o
pays_more (stopped s ∷ os) o = pays_more os o
pays_more (paid z ∷ os) o = ap (λ (zs : List ℤ). z ∷ zs) (pays_more os o)

pub total_more : (zs : List ℤ) (z : ℤ) → total (zs ++ (z ∷ [])) ≡ total zs +ℤ z
unfolding total
total_more [] z = +ℤ_idr z ∙ sym (+ℤ_idl z)
total_more (y ∷ zs) z = ap (λ (x : ℤ). y +ℤ x) (total_more zs z) ∙ sym (+ℤ_assoc y (total zs) z)

from_more : (f : ℤ → ℤ → ℤ) (y : ℤ) (zs : List ℤ) (z : ℤ) → chosen_from f y (zs ++ (z ∷ [])) ≡ f (chosen_from f y zs) z
unfolding chosen_from
from_more f y [] z = refl
from_more f y (x ∷ zs) z = from_more f (f y x) zs z

-- the first is chosen, and then the better of two
pub chosen_more : (f : ℤ → ℤ → ℤ) (zs : List ℤ) (z : ℤ) → chosen f (zs ++ (z ∷ [])) ≡ cond (eqb (length zs) 0) z (f (chosen f zs) z)
unfolding chosen chosen_from
chosen_more f [] z = refl
chosen_more f (y ∷ zs) z = rw (ne_eqb (suc (length zs)) 0 (λ e. omega arith)) (from_more f y zs z)

pub pays_few : (os : List Outcome) → length (pays os) ≤ length os
unfolding pays
pays_few [] = omega arith
pays_few (bad ∷ os) = omega (arith, pays_few os)
pays_few (stopped s ∷ os) = omega (arith, pays_few os)
pays_few (paid z ∷ os) = omega (arith, pays_few os)

-- ---- in 64 bits

pub data AllInRange : List ℤ → Type 0 where
  all_none : AllInRange []
  all_more : {z : ℤ} {zs : List ℤ} → in_range z ≡ true → AllInRange zs → AllInRange (z ∷ zs)

mag_sub : (a b : ℕ) → mag (sub_ℕ a (suc b)) ≤ a + b
mag_sub a b = go (ltb a (suc b)) refl
  where
    go : (t : Bool) → ltb a (suc b) ≡ t → mag (cond t (negsuc (suc b - suc a)) (pos (a - suc b))) ≤ a + b
    go true e = omega arith
    go false e = omega arith

pub mag_plus : (y z : ℤ) → mag (y +ℤ z) ≤ suc (mag y + mag z)
mag_plus (pos a) (pos b) = omega arith
mag_plus (pos a) (negsuc b) = omega (arith, mag_sub a b)
mag_plus (negsuc a) (pos b) = omega (arith, mag_sub b a)
mag_plus (negsuc a) (negsuc b) = omega arith

pub range_mag : (z : ℤ) → in_range z ≡ true → mag z ≤ LARGEST
unfolding in_range
range_mag (pos n) e = leb-true n LARGEST e
range_mag (negsuc n) e = leb-true n LARGEST e

pub total_mag : {zs : List ℤ} → AllInRange zs → mag (total zs) ≤ length zs * 2 ^ 31
unfolding total
total_mag all_none = omega arith
total_mag (all_more {z} {zs} r rs) = omega (arith, mag_plus z (total zs), range_mag z r, total_mag rs)

-- the sum of as many pays as there may be lines
pub sum_fits : (os : List Outcome) → length os ≤ LINES → AllInRange (pays os) → mag (total (pays os)) < 2 ^ 63
sum_fits os h r = omega (arith, total_mag r, pays_few os)

-- the pays of an admitted book are ints
pub in_range_run : {ed : ℕ} {book : List ℕ} {l : Lent} {line : Line} {o : Outcome} {printed : List ℕ} → Admitted ed book l → Comes ed book l line o printed
    → AllInRange (pay_before o [])
in_range_run ready (comes_bad e) = all_none
in_range_run ready (comes_run e (runs_to_stop x f)) = all_none
in_range_run {line = line} ready (comes_run e (runs_to_pay x f i)) =
    let h = job_written line e in
    by_end f i (never_refused ready h.0 h.1 x)
  where
    by_end : {a : Told} {v : Value} {z : ℤ} → a ≡ passed → v ≡ number z → Ended a v → AllInRange (z ∷ [])
    by_end f i (inl g) = all_more (subst (λ (z : ℤ). in_range z ≡ true) (one_number (sym g.2 ∙ i)) g.3) all_none
    by_end f i (inr g) = absurd (passed_stop (sym f ∙ g.1))

before_in_range : (o : Outcome) {zs : List ℤ} → AllInRange (pay_before o []) → AllInRange zs → AllInRange (pay_before o zs)
before_in_range bad r rs = rs
before_in_range (stopped s) r rs = rs
before_in_range (paid z) (all_more r n) rs = all_more r rs

pub all_in_range : {ed : ℕ} {book : List ℕ} {l : Lent} {ls : List Line} {os : List Outcome} {output output' : List ℕ} → Admitted ed book l
    → AllCome ed book l ls os output output' → AllInRange (pays os)
unfolding pays
all_in_range ready none_comes = all_none
all_in_range ready (one_comes {o = o} x xs) = before_in_range o (in_range_run ready x) (all_in_range ready xs)

pub come_long : {ed : ℕ} {book : List ℕ} {l : Lent} {ls : List Line} {os : List Outcome} {output output' : List ℕ} → AllCome ed book l ls os output output'
    → length os ≡ length ls
come_long none_comes = refl
come_long (one_comes x xs) = ap suc (come_long xs)

-- R14.6: so the sum of a shift fits signed 64 bits
pub shift_sum_fits : {ed : ℕ} {book : List ℕ} {l : Lent} {input output output' : List ℕ} {told : Option ShiftRefusal} {r : Report} → Admitted ed book l
    → Shift ed book l input output told r output' → mag r.sum < 2 ^ 63
unfolding report_of
shift_sum_fits {input = input} ready x =
    let h : length x.outcomes ≤ LINES = omega (arith, come_long x.come, length-take LINES (lines input)) in
    subst (λ (r : Report). mag r.sum < 2 ^ 63) (sym x.reports) (sum_fits x.outcomes h (all_in_range ready x.come))
