-- Reports that add up (R14.6, R14.8): what is told of an input from what is told of its two parts, where the first of
-- them ends at a line's end. So several boxes can share the lines of a shift. The reports know nothing of the lines.
use Rattle.std.specs.Prelude.{Bool, cond, ◌&&◌, List, [], ◌∷◌, ◌++◌, ℕ, zero, suc, ◌+◌, ◌-◌, eqb, leb, ℤ, pos, ◌+ℤ◌, ◌*ℤ◌}
use Rattle.std.proofs.Math.Option.{Option, none, some}
use Prim.Native.Char.{code}
use Rattle.std.specs.Int.Signed.{le_z}
use Rattle.language.specs.Sizes.{LINES}
use Rattle.language.specs.State.{Stop, no_unit, too_deep, out_of_range, zero_divisor, cell_freed, cells_full}
use Rattle.language.specs.State.{not_a_byte, output_full, zero_step}
use Rattle.language.specs.Meaning.{in_range, is_zero}
use Rattle.language.specs.Shift.{lesser, greater, Report, ShiftRefusal, sheet, no_book, many_lines}

-- ---- a report by itself

-- lines that stopped, whatever with
unfoldable pub all_stops : (Stop → ℕ) → ℕ
all_stops n =
    n no_unit
    + (n too_deep
    + (n out_of_range
    + (n zero_divisor + (n cell_freed + (n cells_full + (n not_a_byte + (n output_full + n zero_step)))))))

-- lines that were paid
abbrev pub paid_lines : Report → ℕ
paid_lines r = r.lines - (r.bad + all_stops r.stops)

-- Whether so many lines can have been paid this sum, this least and this largest: where nobody was paid all three are
-- 0. Else the two are ints, the least no more than the largest; one line has the largest and all others at least the
-- least, so that the sum is no less than that; and one has the least and all others at most the largest, so that it is
-- no more. With one line all three are the same.
unfoldable pub payable : ℕ → ℤ → ℤ → ℤ → Bool
payable zero sum least largest = is_zero sum && (is_zero least && is_zero largest)
payable (suc others) sum least largest =
    in_range least
    && (in_range largest
    && (le_z least largest
    && (le_z (largest +ℤ pos others *ℤ least) sum && le_z sum (least +ℤ pos others *ℤ largest))))

-- Whether counts and sums can be those of a shift: not too many lines, no more bad and stopped ones than there are, and
-- pays that the others can have had. These are exactly the reports that some outcomes have (proofs/Shift/Possible).
unfoldable pub possible : Report → Bool
possible r =
    leb r.lines LINES
    && (leb (r.bad + all_stops r.stops) r.lines && payable (paid_lines r) r.sum r.least r.largest)

-- ---- two of them

-- the better of two; where nobody was paid in the one, it is that of the other
unfoldable pub either_pay : (ℤ → ℤ → ℤ) → ℕ → ℤ → ℕ → ℤ → ℤ
either_pay f n y m z = cond (eqb n 0) z (cond (eqb m 0) y (f y z))

unfoldable pub both : Report → Report → Report
both r q = record {
  lines = r.lines + q.lines;
  bad = r.bad + q.bad;
  stops = λ s. r.stops s + q.stops s;
  sum = r.sum +ℤ q.sum;
  least = either_pay lesser (paid_lines r) r.least (paid_lines q) q.least;
  largest = either_pay greater (paid_lines r) r.largest (paid_lines q) q.largest;
}

-- they can be those of shifts, and are of no more lines together than one may have
unfoldable pub addable : Report → Report → Bool
addable r q = possible r && (possible q && leb (r.lines + q.lines) LINES)

-- ---- what is told

-- what is told of a shift in the end: whether it was refused, and the report
pub record Ending : Type 0 where
  pub told : Option ShiftRefusal
  pub report : Report

abbrev pub no_report : Report
no_report = record { lines = 0; bad = 0; stops = λ s. 0; sum = pos 0; least = pos 0; largest = pos 0 }

-- A refusal has no sums here, 46 neither: which lines are the first that a shift may have, and what those came to, is
-- not in the reports of two parts.
abbrev pub without_sums : ShiftRefusal → Ending
without_sums w = record { told = some w; report = no_report }

unfoldable pub together : Report → Report → Ending
together r q = cond (addable r q) (record { told = none; report = both r q }) (without_sums many_lines)

-- of two refusals the first; but 46 only where there is no other, so that it does not matter which two come first
abbrev pub refused_by : ShiftRefusal → Option ShiftRefusal → Ending
refused_by many_lines (some w) = without_sums w
refused_by many_lines none = without_sums many_lines
refused_by (sheet r) t = without_sums (sheet r)
refused_by no_book t = without_sums no_book

abbrev pub told_both : Option ShiftRefusal → Option ShiftRefusal → Report → Report → Ending
told_both none none r q = together r q
told_both none (some w) r q = without_sums w
told_both (some w) t r q = refused_by w t

abbrev pub combined : Ending → Ending → Ending
combined x y = told_both x.told y.told x.report y.report

-- what is told of a shift, its sums only where it is not refused
abbrev pub shown : Option ShiftRefusal → Report → Ending
shown none r = record { told = none; report = r }
shown (some w) r = without_sums w

-- an input may be cut behind a line's LF, or in front of everything
pub data AtLineEnd : List ℕ → Type 0 where
  at_front : AtLineEnd []
  behind_feed : (bytes : List ℕ) → AtLineEnd (bytes ++ (code "\n" ∷ []))
