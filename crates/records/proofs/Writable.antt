-- The sums of a shift are such as are read back.
use lib.Dec.{eqb, ltb}
use lib.IntN.{ℤ, pos, negsuc, nat_abs, sub_ℕ, ◌+ℤ◌}
use lib.ListN.{length}
use mathlib.Core.Bool.{Bool, true, false, cond, ◌&&◌}
use mathlib.Core.List.{List}
use mathlib.Core.Path.{◌≡◌, refl, sym, ap, ◌∙◌}
use borrow.Author.Tests.{leb-true, eq-eqb}
use native.Mathlib.Omega.{arith}
use Prim.Native.Nat.{ℕ, suc, ◌+◌, ◌-◌, ◌*◌, ◌^◌, ◌≤◌}
use Rattle.language.specs.Combining.{paid_lines, possible}
use Rattle.language.specs.Shift.{Outcome, pays, total}
use Rattle.language.specs.Sizes.{LINES}
use Rattle.language.specs.Meaning.{in_range}
use Rattle.language.proofs.Shift.Joins.{paid_counted}
use Rattle.language.proofs.Shift.Possible.{report_possible}
use Rattle.language.proofs.Shift.Totals.{AllInRange, all_none, all_more, pays_few}
use Rattle.tally.specs.Stands.{report_in, Stands}
use Rattle.tally.specs.declared.sums.Sums.{Sums}
use Rattle.tally.proofs.Reported.{report_stands}
use Rattle.records.specs.Readings.{whole}
use Rattle.records.proofs.ReadBack.{Writable}

-- ---- how far a sum of ints is from zero

far_sub : (a b : ℕ) → nat_abs (sub_ℕ a (suc b)) ≤ a + suc b
far_sub a b = go (ltb a (suc b)) refl
  where
    go : (t : Bool) → ltb a (suc b) ≡ t → nat_abs (cond t (negsuc (suc b - suc a)) (pos (a - suc b))) ≤ a + suc b
    go true e = omega arith
    go false e = omega arith

far_plus : (y z : ℤ) → nat_abs (y +ℤ z) ≤ nat_abs y + nat_abs z
far_plus (pos a) (pos b) = omega arith
far_plus (pos a) (negsuc b) = omega (arith, far_sub a b)
far_plus (negsuc a) (pos b) = omega (arith, far_sub b a)
far_plus (negsuc a) (negsuc b) = omega arith

range_far : (z : ℤ) → in_range z ≡ true → nat_abs z ≤ 2 ^ 31
unfolding in_range
range_far (pos n) e = omega (arith, leb-true n 2147483647 e)
range_far (negsuc n) e = omega (arith, leb-true n 2147483647 e)

total_far : {zs : List ℤ} → AllInRange zs → nat_abs (total zs) ≤ length zs * 2 ^ 31
unfolding total
total_far all_none = omega arith
total_far (all_more {z} {zs} r rs) = omega (arith, far_plus z (total zs), range_far z r, total_far rs)

-- ---- of the outcomes of as many lines as there may be, whose pays are ints

module _ {os : List Outcome} {s : Sums} (st : Stands os s) (h : length os ≤ LINES) (r : AllInRange (pays os)) where
  they_can : possible (report_in s) ≡ true
  they_can = ap possible (report_stands st) ∙ report_possible (record { few = h; ints = r })

  as_told : paid_lines (report_in s) ≡ s.paid
  as_told = ap paid_lines (report_stands st) ∙ paid_counted os ∙ sym st.paid

  all_whole : whole s ≡ true
  unfolding whole
  all_whole = (λ i. they_can i && eqb (as_told i) s.paid) ∙ eq-eqb s.paid s.paid refl

  pub stands_writable : Writable s
  stands_writable = record {
    whole = all_whole;
    nine = st.nine;
    near = rw st.sum (omega (arith, total_far r, pays_few os));
  }
