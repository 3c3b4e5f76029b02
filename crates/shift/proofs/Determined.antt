-- The contracts of a shift determine the answers, whatever is given: no two answers of begin, of feed, of finish or of combine,
-- and no two states, memories or outputs, meet them for the same input. An answer can be told from what it means.
use Rattle.std.specs.Prelude.{Ok, Err}
use lib.IntN.{ℤ}
use lib.ListN.{length, get_or}
use lib.Seq.{ext_get_or}
use mathlib.Core.Bool.{true, false}
use mathlib.Core.List.{List}
use mathlib.Core.Option.{Option, none, some}
use mathlib.Core.Path.{◌≡◌, refl, sym, ap, ap₂, ◌∙◌}
use native.Mathlib.Omega.{arith}
use Prim.Native.Nat.{ℕ, zero, suc, ◌<◌}
use Rattle.language.specs.Combining as Combining
use Rattle.language.specs.Pairs.{Place}
use Rattle.language.specs.Shift.{Report, ShiftRefusal, sheet, no_book, many_lines}
use Rattle.language.specs.Shift as Shift
use Rattle.language.specs.Sizes.{TABLE, WORK}
use Rattle.language.specs.State.{Stop, no_unit, too_deep, out_of_range, zero_divisor, cell_freed, cells_full, not_a_byte, output_full, zero_step}
use Rattle.language.proofs.Shift.OneReport.{one_admission}
use Rattle.numbers.proofs.Apart.{refusal_of, refusal_back}
use Rattle.pairs.specs.declared.Spot.{Spot}
use Rattle.tally.specs.Stands.{stop_at, report_in}
use Rattle.tally.specs.declared.sums.Sums.{Sums}
use Rattle.shift.specs.Meanings.{Admission}
use Rattle.shift.specs.declared.Answer.{Answer}
use Rattle.shift.specs.Meanings.{Ending}
use Rattle.shift.specs.declared.Finished.{Finished}
use Rattle.shift.specs.declared.State.{State}
use Rattle.shift.specs.declared.Why.{Why}
use Rattle.shift.specs.Combining.{ending_meant, Tells, Combine}
use Rattle.shift.specs.Meanings.{why_meant, admission_meant, left_by}
use Rattle.shift.specs.Promises.{Begin, Feeds, feeds, turned, Feed, Finish, finished, no_edition}
use Rattle.shift.specs.Taking.{printed_over}
use Rattle.shift.proofs.Taken.{one_taking}

-- ---- answers from what they mean

abbrev why_of : ShiftRefusal → Why
why_of (sheet r) = Why.Sheet (refusal_of r)
why_of no_book = Why.NoBook
why_of many_lines = Why.ManyLines

why_back : (w : Why) → why_of (why_meant w) ≡ w
why_back (Why.Sheet r) = ap Why.Sheet (refusal_back r)
why_back Why.NoBook = refl
why_back Why.ManyLines = refl

abbrev spot_of : Place → Spot
spot_of x = record { sheet = x.sheet; at = x.at; begin = x.begins; end = x.ends }

abbrev admission_by : Option ShiftRefusal → Place → Admission
admission_by none x = (Ok tt)
admission_by (some w) x = Err record { why = why_of w; spot = spot_of x }

abbrev admission_of : Shift.Admission → Admission
admission_of a = admission_by a.told a.place

admission_back : (a : Admission) → admission_of (admission_meant a) ≡ a
admission_back (Ok u) = refl
admission_back (Err d) = ap (λ (w : Why). Err record { why = w; spot = d.spot }) (why_back d.why)

pub same_admission : (a b : Admission) → admission_meant a ≡ admission_meant b → a ≡ b
same_admission a b e = sym (admission_back a) ∙ ap admission_of e ∙ admission_back b

-- no ending tells that there is no book
abbrev ending_of : Option ShiftRefusal → Ending
ending_of none = Ok false
ending_of (some (sheet r)) = Err (refusal_of r)
ending_of (some no_book) = Ok true
ending_of (some many_lines) = Ok true

ending_back : (e : Ending) → ending_of (ending_meant e) ≡ e
ending_back (Ok true) = refl
ending_back (Ok false) = refl
ending_back (Err r) = ap Err (refusal_back r)

same_ending : (a b : Ending) → ending_meant a ≡ ending_meant b → a ≡ b
same_ending a b e = sym (ending_back a) ∙ ap ending_of e ∙ ending_back b

answer_made : {a b : Admission} {s t : State} → a ≡ b → s ≡ t → ◌≡◌ {A = Answer} record { told = a; state = s } record { told = b; state = t }
answer_made e f = ap₂ (λ (a : Admission) (s : State). record { told = a; state = s }) e f

-- ---- begin

module _ {edition : ℕ} {book table work : List ℕ} {allowance : ℕ} {t' w' t'' w'' : List ℕ} where
  pub begin_determined : (r q : Answer) → Begin edition book table work allowance r t' w' → Begin edition book table work allowance q t'' w''
      → (r ≡ q) × (t' ≡ t'') × (w' ≡ w'')
  begin_determined r q a b =
      let e = one_admission (a.admits 0) (b.admits 0) in (
        answer_made (same_admission r.told q.told e) (a.state ∙ sym b.state),
        a.table_left ∙ ap (λ (z : Shift.Admission). left_by z.told TABLE table) e ∙ sym b.table_left,
        a.work_left ∙ ap (λ (z : Shift.Admission). left_by z.told WORK work) e ∙ sym b.work_left,
      )

-- ---- feed

granted_not : {w : Why} {x : Spot} {A : Type 0} → ◌≡◌ {A = Admission} (Ok tt) (Err (record { why = w; spot = x })) → A
granted_not e = let z : ◌≡◌ {A = ℕ} 0 1 = cc in absurd (omega arith)

one_feeding : {edition : ℕ} {book piece out o' o'' : List ℕ} {s t u : State} {a b : Admission} → Feeds edition book piece out s o' a t
    → Feeds edition book piece out s o'' b u → a ≡ b → (t ≡ u) × (o' ≡ o'')
one_feeding {out = out} (feeds t e) (feeds u f) g =
    let z = one_taking t u in
    (z.1, e ∙ ap (printed_over out) z.0 ∙ sym f)
one_feeding (feeds t e) (turned f) g = granted_not g
one_feeding (turned e) (feeds u f) g = granted_not (sym g)
one_feeding (turned e) (turned f) g = (refl, e ∙ sym f)

module _ {edition : ℕ} {book piece table work out : List ℕ} {state : State} {t' w' o' t'' w'' o'' : List ℕ} where
  -- whatever the state is
  pub feed_determined : (r q : Answer) → Feed edition book piece table work out state r t' w' o'
      → Feed edition book piece table work out state q t'' w'' o'' → (r ≡ q) × (t' ≡ t'') × (w' ≡ w'') × (o' ≡ o'')
  feed_determined r q a b =
      let e = one_admission a.admits b.admits in
      let f = same_admission r.told q.told e in
      let z = one_feeding a.tells b.tells f in (
        answer_made f z.0,
        a.table_left ∙ ap (λ (z : Shift.Admission). left_by z.told TABLE table) e ∙ sym b.table_left,
        a.work_left ∙ ap (λ (z : Shift.Admission). left_by z.told WORK work) e ∙ sym b.work_left,
        z.1,
      )

-- ---- finish

no_such : {A B : Type 0} {x : Option A} {v : A} → x ≡ some v → x ≡ none → B
no_such e f = let z : ◌≡◌ {A = ℕ} 0 1 = cc in absurd (omega arith)

pub finish_determined : {edition : ℕ} {state : State} {a b : Ending} {s t : Sums} → Finish edition state a s → Finish edition state b t → (a ≡ b) × (s ≡ t)
finish_determined (finished e) (finished f) = (refl, refl)
finish_determined (finished e) (no_edition f) = no_such e f
finish_determined (no_edition e) (finished f) = no_such f e
finish_determined (no_edition e) (no_edition f) = (refl, refl)

-- ---- combine

sums_made : {a b c d e f : ℕ} {m n : List ℕ} {u v w x y z : ℤ} → a ≡ b → c ≡ d → m ≡ n → e ≡ f → u ≡ v → w ≡ x → y ≡ z
    → ◌≡◌ {A = Sums} record { lines = a; bad = c; stops = m; paid = e; sum = u; least = w; largest = y }
    record { lines = b; bad = d; stops = n; paid = f; sum = v; least = x; largest = z }
sums_made i j k l o p q = rw (i, j, k, l, o, p, q) refl

-- nine counts are told by the nine stops
one_nine : (m n : List ℕ) → length m ≡ 9 → length n ≡ 9 → ((w : Stop) → get_or m (stop_at w) 0 ≡ get_or n (stop_at w) 0) → m ≡ n
one_nine m n h k e = ext_get_or 0 m n (h ∙ sym k) at
  where
    at : (i : ℕ) → i < length m → get_or m i 0 ≡ get_or n i 0
    at zero l = e no_unit
    at (suc zero) l = e too_deep
    at (suc (suc zero)) l = e out_of_range
    at (suc (suc (suc zero))) l = e zero_divisor
    at (suc (suc (suc (suc zero)))) l = e cell_freed
    at (suc (suc (suc (suc (suc zero))))) l = e cells_full
    at (suc (suc (suc (suc (suc (suc zero)))))) l = e not_a_byte
    at (suc (suc (suc (suc (suc (suc (suc zero))))))) l = e output_full
    at (suc (suc (suc (suc (suc (suc (suc (suc zero)))))))) l = e zero_step
    at (suc (suc (suc (suc (suc (suc (suc (suc (suc i))))))))) l = absurd (omega (arith, h))

one_sums : (s t : Sums) → report_in s ≡ report_in t → length s.stops ≡ 9 → length t.stops ≡ 9 → s.paid ≡ t.paid → s ≡ t
one_sums s t e h k p =
    sums_made (ap (λ (r : Report). r.lines) e) (ap (λ (r : Report). r.bad) e)
    (one_nine s.stops t.stops h k (λ w. ap (λ (r : Report). r.stops w) e)) p (ap (λ (r : Report). r.sum) e)
    (ap (λ (r : Report). r.least) e) (ap (λ (r : Report). r.largest) e)

pub tells_determined : {e : Combining.Ending} (r q : Finished) → Tells r e → Tells q e → r ≡ q
tells_determined r q a b =
    let z = a.tells ∙ sym b.tells in
    let f = ap (λ (e : Combining.Ending). e.report) z in
    let p = a.paid ∙ ap Combining.paid_lines f ∙ sym b.paid in
    ap₂ (λ (t : Ending) (s : Sums). record { told = t; sums = s }) (same_ending r.told q.told (ap (λ (e : Combining.Ending). e.told) z))
    (one_sums r.sums q.sums f a.nine b.nine p)

pub combine_determined : (first second r q : Finished) → Combine first second r → Combine first second q → r ≡ q
combine_determined first second r q a b = tells_determined r q a b
