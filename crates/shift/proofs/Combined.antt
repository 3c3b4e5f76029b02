-- Two parts told together: what the proofs of `combine` and its helpers cite.
use Rattle.std.specs.Prelude.{Ok, Err}
use lib.ListN.{get_or}
use mathlib.Core.Bool.{Bool, true, false}
use mathlib.Core.Option.{some}
use mathlib.Core.Path.{◌≡◌, refl, sym, subst, ◌∙◌}
use Rattle.language.specs.State as State
use Rattle.language.specs.Combining.{all_stops, addable, no_report, without_sums, together}
use Rattle.language.specs.Shift.{ShiftRefusal, sheet, many_lines}
use Rattle.language.proofs.Text.Choices.{clash}
use Rattle.numbers.specs.Meanings.{refusal_meant}
use Rattle.numbers.specs.declared.Refusal.{Refusal}
use Rattle.tally.specs.Combining.{Both}
use Rattle.tally.specs.Stands.{stop_at, report_in}
use Rattle.tally.specs.Sums.{no_sums}
use Rattle.tally.specs.declared.sums.Sums.{Sums}
use Rattle.shift.specs.Meanings.{Ending}
use Rattle.shift.specs.declared.Finished.{Finished}
use Rattle.shift.specs.Combining.{ending_meant, Tells, Together, Combine}

-- ---- no sums

no_stops : (w : State.Stop) → get_or no_sums.stops (stop_at w) 0 ≡ 0
no_stops State.no_unit = refl
no_stops State.too_deep = refl
no_stops State.out_of_range = refl
no_stops State.zero_divisor = refl
no_stops State.cell_freed = refl
no_stops State.cells_full = refl
no_stops State.not_a_byte = refl
no_stops State.output_full = refl
no_stops State.zero_step = refl

none_told : (e : Ending) {w : ShiftRefusal} → ending_meant e ≡ some w → Tells record { told = e; sums = no_sums } (without_sums w)
unfolding all_stops
none_told e q = record {
  tells = λ i. record {
    told = q i;
    report = record {
      lines = 0;
      bad = 0;
      stops = λ w. no_stops w i;
      sum = no_report.sum;
      least = no_report.least;
      largest = no_report.largest;
    };
  };
  paid = refl;
  nine = refl;
}

pub without : (e : Ending) (s : Sums) {w : ShiftRefusal} → ending_meant e ≡ some w → s ≡ no_sums → Tells record { told = e; sums = s } (without_sums w)
without e s {w} q h = subst (λ (s : Sums). Tells record { told = e; sums = s } (without_sums w)) (sym h) (none_told e q)

-- ---- neither is refused

module _ (a b : Sums) where
  pub added : {s : Sums} {t : Bool} → t ≡ addable (report_in a) (report_in b) → t ≡ true → Both a b s
      → Together a b record { told = Ok false; sums = s }
  unfolding together
  added {s} e h x = record {
    tells = rw (sym e ∙ h) (λ i. record { told = ending_meant (Ok false); report = x.reports i });
    paid = x.paid;
    nine = x.nine;
  }

  pub not_added : {r : Finished} {t : Bool} → t ≡ addable (report_in a) (report_in b) → t ≡ false → Tells r (without_sums many_lines) → Together a b r
  unfolding together
  not_added e h x = rw (sym e ∙ h) x

-- ---- by what is told of each

module _ (first second r : Finished) where
  pub by_first : {y : Refusal} → first.told ≡ Err y → Tells r (without_sums (sheet (refusal_meant y))) → Combine first second r
  by_first e x = rw e x

  pub by_second : {y : Refusal} (over : Bool) → first.told ≡ Ok over → second.told ≡ Err y
      → Tells r (without_sums (sheet (refusal_meant y))) → Combine first second r
  by_second true e f x = rw (e, f) x
  by_second false e f x = rw (e, f) x

  pub first_over : (over also : Bool) → first.told ≡ Ok over → second.told ≡ Ok also → over ≡ true
      → Tells r (without_sums many_lines) → Combine first second r
  first_over true true e f h x = rw (e, f) x
  first_over true false e f h x = rw (e, f) x
  first_over false also e f h x = absurd (clash h refl)

  pub second_over : (over also : Bool) → first.told ≡ Ok over → second.told ≡ Ok also → over ≡ false → also ≡ true
      → Tells r (without_sums many_lines) → Combine first second r
  second_over true also e f h k x = absurd (clash refl h)
  second_over false true e f h k x = rw (e, f) x
  second_over false false e f h k x = absurd (clash k refl)

  pub neither_over : (over also : Bool) → first.told ≡ Ok over → second.told ≡ Ok also → over ≡ false → also ≡ false
      → Together first.sums second.sums r → Combine first second r
  neither_over true also e f h k x = absurd (clash refl h)
  neither_over false true e f h k x = absurd (clash refl k)
  neither_over false false e f h k x = rw (e, f) x
