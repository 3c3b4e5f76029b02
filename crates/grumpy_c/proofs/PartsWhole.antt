-- Parts of a shift for C: the words of a report are read again as what was told, so that those of two parts are combined to
-- those of the whole (R14.6, R14.8).
use lib.ListN.{length, length-take}
use mathlib.Core.Bool.{true}
use mathlib.Core.List.{List, [], ◌++◌}
use mathlib.Core.Logic.{◌⊎◌, inl, inr}
use mathlib.Core.Option.{Option, none, some}
use mathlib.Core.Path.{◌≡◌, refl, sym, ap, ap₂, subst, ◌∙◌}
use borrow.Author.Tests.{lt-ltb, le-ltb}
use mir.Facts.{to_z-of_z}
use mir.Syntax.{w64}
use mir.Val.{SFits}
use native.Mathlib.Omega.{arith}
use Prim.Native.Nat.{ℕ, ◌≤◌, ◌<◌}
use Rattle.language.specs.Combining.{all_stops, possible, Ending, combined, shown, AtLineEnd}
use Rattle.language.specs.Numbers.{no_edition}
use Rattle.language.specs.Shift.{ShiftRefusal, sheet, many_lines, lines, Report, told_of}
use Rattle.language.specs.Shift as Shift
use Rattle.language.specs.Sizes.{LINES}
use Rattle.language.specs.State as State
use Rattle.language.proofs.Shift.Combining.{combined_is_whole}
use Rattle.language.proofs.Shift.Possible.{Possible, possible_so, report_possible, sum_size, least_size, largest_size}
use Rattle.language.proofs.Shift.LineOutcomes.{Admitted}
use Rattle.language.proofs.Shift.Totals.{all_in_range, come_long}
use Rattle.language.proofs.Text.Choices.{either}
use Rattle.tally.specs.Stands.{report_in}
use Rattle.shift.specs.Combining.{told_in}
use Rattle.shift.specs.Taking.{needed}
use Rattle.grumpy_c.specs.Combining.{capped, ending_in, counts_in, finished_in, told_of_both, CombinedC, combine_no_room, combine_told}
use Rattle.grumpy_c.specs.Shifts.{FINISH, told_number, report_words}
use Rattle.grumpy_c.specs.Words.{with_front, count_in}
use Rattle.grumpy_c.proofs.ShiftWhole.{Reported}

-- ---- read again

capped_same : (n : ℕ) → n ≤ LINES → capped n ≡ n
unfolding count_in
capped_same n h = rw (lt-ltb n 4294967296 (omega arith)) refl

stop_few : (n : State.Stop → ℕ) (s : State.Stop) → n s ≤ all_stops n
unfolding all_stops
stop_few n State.no_unit = omega arith
stop_few n State.too_deep = omega arith
stop_few n State.out_of_range = omega arith
stop_few n State.zero_divisor = omega arith
stop_few n State.cell_freed = omega arith
stop_few n State.cells_full = omega arith
stop_few n State.not_a_byte = omega arith
stop_few n State.output_full = omega arith
stop_few n State.zero_step = omega arith

-- what is told with the numbers that stand for themselves
pub data Readable : Option ShiftRefusal → Type 0 where
  read_none : Readable none
  read_many : Readable (some many_lines)
  read_edition : Readable (some (sheet no_edition))

module _ (w : List ℕ) (n : ℕ) (r : Report) (p : Possible r) where
  stop_back : (s : State.Stop) → capped (r.stops s) ≡ r.stops s
  stop_back s = capped_same (r.stops s) (omega (arith, stop_few r.stops s, p.others, p.lines))

  stops_back : (s : State.Stop) → (report_in (counts_in (with_front w (report_words n r)))).stops s ≡ r.stops s
  unfolding with_front report_words
  stops_back State.no_unit = stop_back State.no_unit
  stops_back State.too_deep = stop_back State.too_deep
  stops_back State.out_of_range = stop_back State.out_of_range
  stops_back State.zero_divisor = stop_back State.zero_divisor
  stops_back State.cell_freed = stop_back State.cell_freed
  stops_back State.cells_full = stop_back State.cells_full
  stops_back State.not_a_byte = stop_back State.not_a_byte
  stops_back State.output_full = stop_back State.output_full
  stops_back State.zero_step = stop_back State.zero_step

  report_back : report_in (counts_in (with_front w (report_words n r))) ≡ r
  unfolding with_front report_words
  report_back =
      let sum : SFits w64 r.sum = record { sfits = omega (arith, sum_size p, p.lines) } in
      let least : SFits w64 r.least = record { sfits = omega (arith, least_size p) } in
      let largest : SFits w64 r.largest = record { sfits = omega (arith, largest_size p) } in
      λ i. record {
        lines = capped_same r.lines p.lines i;
        bad = capped_same r.bad (omega (arith, p.others, p.lines)) i;
        stops = λ s. stops_back s i;
        sum = to_z-of_z {w = w64} sum i;
        least = to_z-of_z {w = w64} least i;
        largest = to_z-of_z {w = w64} largest i;
      }

  -- with a number that a report has
  pub words_back : {t : Option ShiftRefusal} → Readable t → n ≡ told_number t
      → told_in (finished_in (with_front w (report_words n r))) ≡ record { told = t; report = r }
  unfolding finished_in with_front report_words ending_in
  words_back read_none m = rw m (λ i. record { told = none; report = report_back i })
  words_back read_many m = rw m (λ i. record { told = some many_lines; report = report_back i })
  words_back read_edition m = rw m (λ i. record { told = some (sheet no_edition); report = report_back i })

-- ---- what is told of a shift can be read again

told_either : (t : Option ShiftRefusal) (input : List ℕ) → t ≡ told_of (lines input) → (t ≡ none) ⊎ (t ≡ some many_lines)
unfolding told_of
told_either t input e = go (either LINES (length (lines input)))
  where
    go : (LINES < length (lines input)) ⊎ (length (lines input) ≤ LINES) → (t ≡ none) ⊎ (t ≡ some many_lines)
    go (inl h) = inr (e ∙ rw (lt-ltb LINES (length (lines input)) h) refl)
    go (inr h) = inl (e ∙ rw (le-ltb LINES (length (lines input)) h) refl)

told_readable : {t : Option ShiftRefusal} → (t ≡ none) ⊎ (t ≡ some many_lines) → Readable t
told_readable (inl e) = subst Readable (sym e) read_none
told_readable (inr e) = subst Readable (sym e) read_many

module _ {ed : ℕ} {book : List ℕ} {room allowance : ℕ} (ready : Admitted ed book (needed room allowance)) where
  shift_possible : {input output output' : List ℕ} {told : Option ShiftRefusal} {r : Report}
      → Shift.Shift ed book (needed room allowance) input output told r output' → Possible r
  shift_possible {input} {r = r} x =
      let few : length x.outcomes ≤ LINES = omega (arith, come_long x.come, length-take LINES (lines input)) in
      possible_so r
      (subst (λ (r : Report). possible r ≡ true) (sym x.reports) (report_possible (record { few = few; ints = all_in_range ready x.come })))

  read_part : {input w w' : List ℕ} {n : ℕ} (x : Reported ed book room allowance input w w' n)
      → told_in (finished_in w') ≡ record { told = x.told; report = x.written }
  read_part {input} {w = w} {n = n} x =
      ap (λ (v : List ℕ). told_in (finished_in v)) x.words
      ∙ words_back w n x.written (shift_possible (x.shift [])) (told_readable (told_either x.told input (x.shift []).refuses)) x.number

  -- ---- combined

  shown_told : (t : Option ShiftRefusal) (r : Report) → (shown t r).told ≡ t
  shown_told none r = refl
  shown_told (some w) r = refl

  shown_report : (t : Option ShiftRefusal) (r : Report) → (t ≡ none) ⊎ (t ≡ some many_lines) → told_number t ≡ 0 → (shown t r).report ≡ r
  shown_report t r (inl e) h = rw e refl
  shown_report t r (inr e) h = let z : ◌≡◌ {A = ℕ} 46 0 = sym (ap told_number e) ∙ h in absurd (omega arith)

  -- the number of the whole, and its words where that is no refusal
  pub parts_whole : {a b : List ℕ} → AtLineEnd a → {wa wa' wb wb' w w' report report' : List ℕ} {na nb n m : ℕ}
      → Reported ed book room allowance a wa wa' na → Reported ed book room allowance b wb wb' nb → (z : Reported ed book room allowance (a ++ b) w w' n)
      → FINISH ≤ length wa' → FINISH ≤ length wb' → FINISH ≤ length report → CombinedC wa' wb' report report' m
      → (m ≡ n) × (n ≡ 0 → report' ≡ with_front report (report_words n z.written))
  parts_whole e x y z h k j (combine_no_room (inl g) c d) = absurd (omega arith)
  parts_whole e x y z h k j (combine_no_room (inr (inl g)) c d) = absurd (omega arith)
  parts_whole e x y z h k j (combine_no_room (inr (inr g)) c d) = absurd (omega arith)
  parts_whole {a} {b} e {wa' = wa'} {wb' = wb'} {report = report} {n = n} x y z h k j (combine_told c d g num words) =
      let q : told_of_both wa' wb' ≡ shown z.told z.written =
      ap₂ combined (read_part x) (read_part y) ∙ sym (combined_is_whole ready e (x.shift []) (y.shift []) (z.shift [])) in
      let t = ap (λ (v : Ending). told_number v.told) q ∙ ap told_number (shown_told z.told z.written) in
      let same = num ∙ t ∙ sym z.number in
      let either_told = told_either z.told (a ++ b) (z.shift []).refuses in (
        same,
        λ zero. words ∙ ap₂ (λ (i : ℕ) (r : Report). with_front report (report_words i r)) same
            (ap (λ (v : Ending). v.report) q ∙ shown_report z.told z.written either_told (sym z.number ∙ zero)),
      )
