-- What is kept of the lines so far are the numbers of the written report of what they came to, up to the limit (R14.6).
use lib.Dec.{eqb}
use lib.IntN.{ℤ, pos, negsuc, ◌+ℤ◌}
use lib.ListN.{length, get_or, set, length-append, length-set}
use lib.Seq.{get_or-set_same, get_or-set_other}
use lib.Signed.{mag, lt_z}
use mathlib.Core.Bool.{Bool, true, false, cond}
use mathlib.Core.List.{List, [], ◌∷◌, ◌++◌, append-nil}
use mathlib.Core.Path.{◌≡◌, refl, sym, ap, subst, ◌∙◌}
use borrow.Author.Tests.{le-ltb, eqb-true, eqb-false}
use native.Mathlib.Omega.{arith}
use Prim.Native.Nat.{ℕ, suc, ◌+◌, ◌≤◌, ◌<◌}
use Rattle.language.specs.Sizes.{LINES}
use Rattle.language.specs.Numbers.{stop_number}
use Rattle.language.specs.State as State
use Rattle.language.specs.Shift as Shift
use Rattle.language.specs.Shift.{tally, is_bad, is_stop, pay_before, pays, total, chosen, lesser, greater, report_of}
use Rattle.language.proofs.Shift.Totals.{tally_more, pays_more, total_more, chosen_more, pays_few, AllInRange, total_mag}
use Rattle.numbers.specs.Meanings.{stop_meant}
use Rattle.numbers.specs.declared.Stop.{Stop}
use Rattle.tally.specs.declared.sums.Sums.{Sums}
use Rattle.tally.specs.declared.sums.Outcome.{Outcome}
use Rattle.tally.specs.Stands.{outcome_meant, stop_at, report_in, Stands}
use Rattle.tally.specs.Sums.{no_sums, stop_index, counted, HIGH, LOW, summed, with_bad, with_stop, with_pay, added}
use Rattle.tally.proofs.Laws.{counted_more, plus_summed, stop_least, stop_most}

pub report_stands : {os : List Shift.Outcome} {s : Sums} → Stands os s → report_in s ≡ report_of os
unfolding report_of
report_stands h = λ i. record {
  lines = h.lines i;
  bad = h.bad i;
  stops = λ w. h.stops w i;
  sum = h.sum i;
  least = h.least i;
  largest = h.largest i;
}

-- ---- one outcome more

tally_few : (f : Shift.Outcome → Bool) (os : List Shift.Outcome) → tally f os ≤ length os
unfolding tally
tally_few f [] = omega arith
tally_few f (o ∷ os) = by_test (f o) (tally_few f os)
  where
    by_test : (b : Bool) → tally f os ≤ length os → cond b 1 0 + tally f os ≤ suc (length os)
    by_test true h = omega arith
    by_test false h = omega arith

count_more : (n : ℕ) (f : Shift.Outcome → Bool) (os : List Shift.Outcome) (o : Shift.Outcome) → n ≡ tally f os → length os < LINES → f o ≡ true
    → counted n ≡ tally f (os ++ (o ∷ []))
count_more n f os o e h t =
    let l = tally_few f os in
    sym (counted_more n (omega (arith, e))) ∙ ap (λ (n : ℕ). n + 1) e ∙ sym (tally_more f os o ∙ rw t)

count_same : (n : ℕ) (f : Shift.Outcome → Bool) (os : List Shift.Outcome) (o : Shift.Outcome) → n ≡ tally f os → f o ≡ false
    → n ≡ tally f (os ++ (o ∷ []))
count_same n f os o e t =
    let z : tally f os + 0 ≡ tally f os = omega arith in
    e ∙ sym (tally_more f os o ∙ rw t z)

lines_more : (n : ℕ) (os : List Shift.Outcome) (o : Shift.Outcome) → n ≡ length os → length os < LINES → counted n ≡ length (os ++ (o ∷ []))
lines_more n os o e h = sym (counted_more n (omega (arith, e))) ∙ omega (arith, e, length-append os (o ∷ []))

module _ (os : List Shift.Outcome) (s : Sums) (h : Stands os s) (few : length os < LINES) where
  -- a line that was not paid leaves the pays as they were
  unpaid : (o : Shift.Outcome) → pay_before o [] ≡ [] → pays os ≡ pays (os ++ (o ∷ []))
  unpaid o e = sym (pays_more os o ∙ ap (λ (zs : List ℤ). pays os ++ zs) e ∙ append-nil (pays os))

  pub bad_more : Stands (os ++ (Shift.bad ∷ [])) (with_bad s)
  bad_more =
      let p = unpaid Shift.bad refl in
      record {
        lines = lines_more s.lines os Shift.bad h.lines few;
        bad = count_more s.bad is_bad os Shift.bad h.bad few refl;
        nine = h.nine;
        stops = λ w. count_same (get_or s.stops (stop_at w) 0) (is_stop w) os Shift.bad (h.stops w) refl;
        paid = h.paid ∙ ap length p;
        sum = h.sum ∙ ap total p;
        least = h.least ∙ ap (chosen lesser) p;
        largest = h.largest ∙ ap (chosen greater) p;
      }

  module _ (v : Stop) where
    abbrev o : Shift.Outcome
    o = Shift.stopped (stop_meant v)

    stop_counted : (w : State.Stop) → get_or (set s.stops (stop_index v) (counted (get_or s.stops (stop_index v) 0))) (stop_at w) 0
        ≡ tally (is_stop w) (os ++ (o ∷ []))
    stop_counted w = by_same (eqb (stop_number w) (stop_number (stop_meant v))) refl
      where
        by_same : (b : Bool) → eqb (stop_number w) (stop_number (stop_meant v)) ≡ b
            → get_or (set s.stops (stop_index v) (counted (get_or s.stops (stop_index v) 0))) (stop_at w) 0 ≡ tally (is_stop w) (os ++ (o ∷ []))
        by_same true e =
            let z : stop_index v ≡ stop_at w = omega (arith, eqb-true (stop_number w) (stop_number (stop_meant v)) e) in
            let i : stop_at w < length s.stops = omega (arith, h.nine, stop_least w, stop_most w) in
            ap (λ (j : ℕ). get_or (set s.stops j (counted (get_or s.stops j 0))) (stop_at w) 0) z
            ∙ get_or-set_same s.stops (stop_at w) (counted (get_or s.stops (stop_at w) 0)) 0 i
            ∙ count_more (get_or s.stops (stop_at w) 0) (is_stop w) os o (h.stops w) few e
        by_same false e =
            get_or-set_other s.stops (stop_index v) (stop_at w) (counted (get_or s.stops (stop_index v) 0)) 0
            (λ z. eqb-false (stop_number w) (stop_number (stop_meant v)) e (omega (arith, z, stop_least w, stop_least (stop_meant v))))
            ∙ count_same (get_or s.stops (stop_at w) 0) (is_stop w) os o (h.stops w) e

    stop_more : Stands (os ++ (o ∷ [])) (with_stop s v)
    stop_more =
        let p = unpaid o refl in
        record {
          lines = lines_more s.lines os o h.lines few;
          bad = count_same s.bad is_bad os o h.bad refl;
          nine = length-set s.stops (stop_index v) (counted (get_or s.stops (stop_index v) 0)) ∙ h.nine;
          stops = stop_counted;
          paid = h.paid ∙ ap length p;
          sum = h.sum ∙ ap total p;
          least = h.least ∙ ap (chosen lesser) p;
          largest = h.largest ∙ ap (chosen greater) p;
        }

  module _ (z : ℤ) (ints : AllInRange (pays os)) where
    abbrev q : List Shift.Outcome
    q = os ++ (Shift.paid z ∷ [])

    paid_more : pays q ≡ pays os ++ (z ∷ [])
    paid_more = pays_more os (Shift.paid z)

    -- the sum so far is one that a shift can come to
    near : (x : ℤ) → mag x ≤ 140737488355328 → (lt_z HIGH x ≡ false) × (lt_z x LOW ≡ false)
    near (pos n) l = (le-ltb 140737488355328 n l, refl)
    near (negsuc n) l = (refl, le-ltb 140737488355328 n l)

    sum_more : summed s.sum z ≡ total (pays q)
    sum_more =
        let l : mag s.sum ≤ 140737488355328 = subst (λ (x : ℤ). mag x ≤ 140737488355328) (sym h.sum) (omega (arith, total_mag ints, pays_few os)) in
        let n = near s.sum l in
        sym (plus_summed s.sum z n.0 n.1) ∙ ap (λ (x : ℤ). x +ℤ z) h.sum ∙ sym (ap total paid_more ∙ total_more (pays os) z)

    chosen_so : (f : ℤ → ℤ → ℤ) (x : ℤ) → x ≡ chosen f (pays os) → cond (eqb s.paid 0) z (f x z) ≡ chosen f (pays q)
    chosen_so f x e = rw (h.paid, e) (sym (ap (chosen f) paid_more ∙ chosen_more f (pays os) z))

    pay_more : Stands q (with_pay s z)
    unfolding with_pay
    pay_more = record {
      lines = lines_more s.lines os (Shift.paid z) h.lines few;
      bad = count_same s.bad is_bad os (Shift.paid z) h.bad refl;
      nine = h.nine;
      stops = λ w. count_same (get_or s.stops (stop_at w) 0) (is_stop w) os (Shift.paid z) (h.stops w) refl;
      paid = sym (counted_more s.paid (omega (arith, h.paid, pays_few os)))
          ∙ omega (arith, h.paid, ap length paid_more, length-append (pays os) (z ∷ []));
      sum = sum_more;
      least = chosen_so lesser s.least h.least;
      largest = chosen_so greater s.largest h.largest;
    }

-- what is kept stands for one outcome more
pub added_stands : (os : List Shift.Outcome) (s : Sums) (o : Outcome) → Stands os s → length os < LINES → AllInRange (pays os)
    → Stands (os ++ (outcome_meant o ∷ [])) (added s o)
added_stands os s Outcome.Bad h few ints = bad_more os s h few
added_stands os s (Outcome.Stopped v) h few ints = stop_more os s h few v
added_stands os s (Outcome.Paid z) h few ints = pay_more os s h few z ints

-- at first for none
no_stop : (w : State.Stop) → get_or no_sums.stops (stop_at w) 0 ≡ 0
no_stop State.no_unit = refl
no_stop State.too_deep = refl
no_stop State.out_of_range = refl
no_stop State.zero_divisor = refl
no_stop State.cell_freed = refl
no_stop State.cells_full = refl
no_stop State.not_a_byte = refl
no_stop State.output_full = refl
no_stop State.zero_step = refl

pub none_stands : Stands [] no_sums
unfolding tally pays total chosen
none_stands = record { lines = refl; bad = refl; nine = refl; stops = no_stop; paid = refl; sum = refl; least = refl; largest = refl }
