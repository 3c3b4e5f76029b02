-- Reports may be combined in whichever order, two by two as they come: whatever they are, it does not matter which two are
-- combined first; a report of no lines changes nothing, and where neither is refused it does not matter which of two is the
-- first (R14.6).
use lib.Dec.{eqb, leb}
use lib.IntN.{ℤ, pos, negsuc, +ℤ_comm}
use lib.ListN.{length, length-append}
use lib.Signed.{lt_z}
use mathlib.Core.Bool.{Bool, true, false, cond, ◌&&◌}
use mathlib.Core.List.{List, [], ◌∷◌, ◌++◌, append_assoc}
use mathlib.Core.Logic.{◌⊎◌, inl, inr, ⊎_elim}
use mathlib.Core.Option.{Option, none, some}
use mathlib.Core.Path.{◌≡◌, refl, sym, ap, ap₂, subst, ◌∙◌}
use borrow.Author.Tests.{ltb-true, ltb-false, leb-true, eqb-true}
use native.Mathlib.Nat.{add_comm}
use native.Mathlib.Omega.{arith}
use Prim.Native.Nat.{ℕ, ◌+◌, ◌≤◌, ◌<◌}
use Rattle.language.specs.Sizes.{LINES}
use Rattle.language.specs.Shift.{Outcome, tally, is_bad, is_stop, pays, total, lesser, greater, chosen, Report, report_of}
use Rattle.language.specs.Shift.{ShiftRefusal, sheet, no_book, many_lines}
use Rattle.language.specs.Combining.{paid_lines, possible, either_pay, both, addable, Ending, no_report, without_sums, together, combined}
use Rattle.language.proofs.Text.Choices.{either, clash, outcome, and_both}
use Rattle.language.proofs.Shift.Totals.{AllInRange, all_none, all_more}
use Rattle.language.proofs.Shift.Joins.{pays_join, paid_counted, report_join, report_none}
use Rattle.language.proofs.Shift.Possible.{Few, report_possible, possible_came}
use Rattle.language.proofs.Shift.Combining.{lines_told, add_few, add_many}

abbrev told : List Outcome → Ending
told os = record { told = none; report = report_of os }

-- what may be told: the report of some outcomes, or a refusal
data Real : Ending → Type 0 where
  of_lines : {os : List Outcome} → Few os → Real (told os)
  refused : (w : ShiftRefusal) {r : Report} → Real record { told = some w; report = r }

-- ---- which two come first

append_range : {zs ys : List ℤ} → AllInRange zs → AllInRange ys → AllInRange (zs ++ ys)
append_range all_none k = k
append_range (all_more r rs) k = all_more r (append_range rs k)

join_few : {os ps : List Outcome} → Few os → Few ps → length os + length ps ≤ LINES → Few (os ++ ps)
join_few {os} {ps} h k n = record {
  few = omega (arith, length-append os ps);
  ints = subst AllInRange (sym (pays_join os ps)) (append_range h.ints k.ints);
}

module _ {os ps qs : List Outcome} (h : Few os) (k : Few ps) (m : Few qs) where
  left_long : length (os ++ ps) ≡ length os + length ps
  left_long = length-append os ps

  right_long : length (ps ++ qs) ≡ length ps + length qs
  right_long = length-append ps qs

  fit : length os + length ps ≤ LINES → length ps + length qs ≤ LINES
      → (LINES < length os + length ps + length qs) ⊎ (length os + length ps + length qs ≤ LINES)
      → combined (combined (told os) (told ps)) (told qs) ≡ combined (told os) (combined (told ps) (told qs))
  fit n o (inl t) =
      let l = add_many (join_few h k n) m (omega (arith, left_long)) in
      let r = add_many h (join_few k m o) (omega (arith, right_long)) in
      rw (add_few h k n, add_few k m o) (l ∙ sym r)
  fit n o (inr t) =
      let l = add_few (join_few h k n) m (omega (arith, left_long)) in
      let r = add_few h (join_few k m o) (omega (arith, right_long)) in
      let e = ap told (append_assoc os ps qs) in
      rw (add_few h k n, add_few k m o) (l ∙ e ∙ sym r)

  lines_assoc : (LINES < length os + length ps) ⊎ (length os + length ps ≤ LINES) → (LINES < length ps + length qs) ⊎ (length ps + length qs ≤ LINES)
      → combined (combined (told os) (told ps)) (told qs) ≡ combined (told os) (combined (told ps) (told qs))
  lines_assoc (inr n) (inr o) = fit n o (either LINES (length os + length ps + length qs))
  lines_assoc (inr n) (inl o) = rw (add_few h k n, add_many k m o) (add_many (join_few h k n) m (omega (arith, left_long)))
  lines_assoc (inl n) (inr o) = rw (add_many h k n, add_few k m o) (sym (add_many h (join_few k m o) (omega (arith, right_long))))
  lines_assoc (inl n) (inl o) = rw (add_many h k n, add_many k m o)

module _ {os ps : List Outcome} (h : Few os) (k : Few ps) where
  by_few : (P : Ending → Type 0) → P (told (os ++ ps)) → P (without_sums many_lines)
      → P (together (report_of os) (report_of ps))
  by_few P a b = go (either LINES (length os + length ps))
    where
      go : (LINES < length os + length ps) ⊎ (length os + length ps ≤ LINES) → P (together (report_of os) (report_of ps))
      go (inl n) = subst P (sym (add_many h k n)) b
      go (inr n) = subst P (sym (add_few h k n)) a

real_assoc : {x y z : Ending} → Real x → Real y → Real z → combined (combined x y) z ≡ combined x (combined y z)
real_assoc (of_lines {os} h) (of_lines {os = ps} k) (of_lines {os = qs} m) =
    lines_assoc h k m (either LINES (length os + length ps)) (either LINES (length ps + length qs))
real_assoc (of_lines h) (of_lines k) (refused u {r}) =
    by_few h k (λ (x : Ending). combined x (record { told = some u; report = r }) ≡ without_sums u) refl refl
real_assoc (of_lines h) (refused (sheet v)) z = refl
real_assoc (of_lines h) (refused no_book) z = refl
real_assoc (of_lines h) (refused many_lines) (of_lines m) = refl
real_assoc (of_lines h) (refused many_lines) (refused u) = refl
real_assoc (refused (sheet w)) y z = refl
real_assoc (refused no_book) y z = refl
real_assoc (refused many_lines) (refused (sheet v)) z = refl
real_assoc (refused many_lines) (refused no_book) z = refl
real_assoc (refused many_lines) (refused many_lines) (of_lines m) = refl
real_assoc (refused many_lines) (refused many_lines) (refused u) = refl
real_assoc (refused many_lines {r}) (of_lines k) (of_lines m) =
    by_few k m (λ (x : Ending). without_sums many_lines ≡ combined (record { told = some many_lines; report = r }) x) refl refl
real_assoc (refused many_lines) (of_lines k) (refused u) = refl

-- A report that no outcomes have is combined as 46 is.
record AsReal (x : Ending) : Type 0 where
  other : Ending
  real : Real other
  first : (y : Ending) → combined x y ≡ combined other y
  second : (y : Ending) → combined y x ≡ combined y other

module _ (r q : Report) (e : possible r ≡ false) where
  first_not : together r q ≡ without_sums many_lines
  unfolding together addable
  first_not = rw e

  second_not : together q r ≡ without_sums many_lines
  unfolding together addable
  second_not = go (possible q) refl
    where
      go : (t : Bool) → possible q ≡ t
          → cond (t && (possible r && leb (q.lines + r.lines) LINES)) (record { told = none; report = both q r }) (without_sums many_lines)
          ≡ without_sums many_lines
      go true h = rw e
      go false h = refl

module _ (r : Report) where
  abbrev plain : Ending
  plain = record { told = none; report = r }

  as_came : possible r ≡ true → AsReal plain
  as_came e =
      let c = possible_came r e in
      record {
        other = plain;
        real = subst (λ (r : Report). Real record { told = none; report = r }) c.reported (of_lines c.real);
        first = λ y. refl;
        second = λ y. refl;
      }

  module _ (e : possible r ≡ false) where
    abbrev many : Ending
    many = without_sums many_lines

    many_first : (t : Option ShiftRefusal) (q : Report) → combined plain record { told = t; report = q } ≡ combined many record { told = t; report = q }
    many_first none q = first_not r q e
    many_first (some w) q = refl

    many_second : (t : Option ShiftRefusal) (q : Report) → combined record { told = t; report = q } plain ≡ combined record { told = t; report = q } many
    many_second none q = second_not r q e
    many_second (some many_lines) q = refl
    many_second (some (sheet w)) q = refl
    many_second (some no_book) q = refl

    as_many : AsReal plain
    as_many = record {
      other = many;
      real = refused many_lines;
      first = λ y. many_first y.told y.report;
      second = λ y. many_second y.told y.report;
    }

as_real : (t : Option ShiftRefusal) (r : Report) → AsReal record { told = t; report = r }
as_real none r = ⊎_elim (as_came r) (as_many r) (outcome (possible r))
as_real (some w) r = record { other = record { told = some w; report = r }; real = refused w; first = λ y. refl; second = λ y. refl }

-- whatever the three are, also what no shift can come to
pub combined_assoc : (x y z : Ending) → combined (combined x y) z ≡ combined x (combined y z)
combined_assoc x y z =
    let a = as_real x.told x.report in
    let b = as_real y.told y.report in
    let c = as_real z.told z.report in
    let xy : combined x y ≡ combined a.other b.other = a.first y ∙ b.second a.other in
    let yz : combined y z ≡ combined b.other c.other = b.first z ∙ c.second b.other in
    ap (λ (v : Ending). combined v z) xy
    ∙ c.second (combined a.other b.other)
    ∙ real_assoc a.real b.real c.real
    ∙ sym (a.first (combined b.other c.other))
    ∙ sym (ap (combined x) yz)

-- what is added is possible again
pub both_possible : (r q : Report) → addable r q ≡ true → possible (both r q) ≡ true
unfolding addable
both_possible r q h =
    let a = and_both (possible r) _ h in
    let b = and_both (possible q) _ a.1 in
    let x = possible_came r a.0 in
    let y = possible_came q b.0 in
    let n : r.lines + q.lines ≤ LINES = leb-true _ _ b.1 in
    let e = ap₂ both (sym x.reported) (sym y.reported) ∙ sym (report_join x.outcomes y.outcomes) in
    let i : length x.outcomes ≡ r.lines = sym (lines_told x.outcomes) ∙ ap (λ (r : Report). r.lines) x.reported in
    let j : length y.outcomes ≡ q.lines = sym (lines_told y.outcomes) ∙ ap (λ (r : Report). r.lines) y.reported in
    rw e (report_possible (join_few x.real y.real (omega (arith, n, i, j))))

-- ---- no lines

none_few : Few []
unfolding pays
none_few = record { few = omega arith; ints = all_none }

pub combined_with_none : (r : Report) → possible r ≡ true → combined (plain no_report) (plain r) ≡ plain r
combined_with_none r e =
    let x = possible_came r e in
    subst (λ (r : Report). together no_report r ≡ plain r) x.reported
    (subst (λ (q : Report). together q (report_of x.outcomes) ≡ told x.outcomes) report_none
    (add_few none_few x.real (omega (arith, x.real.few))))

-- ---- which is the first

less_not : (y z : ℤ) → lt_z y z ≡ true → lt_z z y ≡ true → ⊥
less_not (pos y) (pos z) e f = omega (arith, ltb-true y z e, ltb-true z y f)
less_not (pos y) (negsuc z) e f = clash e refl
less_not (negsuc y) (pos z) e f = clash f refl
less_not (negsuc y) (negsuc z) e f = omega (arith, ltb-true z y e, ltb-true y z f)

less_neither : (y z : ℤ) → lt_z y z ≡ false → lt_z z y ≡ false → z ≡ y
less_neither (pos y) (pos z) e f = let q : z ≡ y = omega (arith, ltb-false y z e, ltb-false z y f) in ap pos q
less_neither (pos y) (negsuc z) e f = absurd (clash refl f)
less_neither (negsuc y) (pos z) e f = absurd (clash refl e)
less_neither (negsuc y) (negsuc z) e f = let q : z ≡ y = omega (arith, ltb-false z y e, ltb-false y z f) in ap negsuc q

lesser_comm : (y z : ℤ) → lesser y z ≡ lesser z y
lesser_comm y z = go (lt_z y z) (lt_z z y) refl refl
  where
    go : (a b : Bool) → lt_z y z ≡ a → lt_z z y ≡ b → cond (lt_z z y) z y ≡ cond (lt_z y z) y z
    go true true e f = absurd (less_not y z e f)
    go true false e f = rw (e, f)
    go false true e f = rw (e, f)
    go false false e f = rw (e, f) (sym (less_neither y z e f))

greater_comm : (y z : ℤ) → greater y z ≡ greater z y
greater_comm y z = go (lt_z y z) (lt_z z y) refl refl
  where
    go : (a b : Bool) → lt_z y z ≡ a → lt_z z y ≡ b → cond (lt_z y z) z y ≡ cond (lt_z z y) y z
    go true true e f = absurd (less_not y z e f)
    go true false e f = rw (e, f)
    go false true e f = rw (e, f)
    go false false e f = rw (e, f) (sym (less_neither y z e f))

-- of nobody's there is nothing to compare; of two such, which are told as 0, neither
either_comm : (f : ℤ → ℤ → ℤ) → ((y z : ℤ) → f y z ≡ f z y) → (n m : ℕ) (y z : ℤ) → (n ≡ 0 → m ≡ 0 → y ≡ z) → either_pay f n y m z ≡ either_pay f m z n y
unfolding either_pay
either_comm f c n m y z h = go (eqb n 0) (eqb m 0) refl refl
  where
    go : (a b : Bool) → eqb n 0 ≡ a → eqb m 0 ≡ b → cond (eqb n 0) z (cond (eqb m 0) y (f y z)) ≡ cond (eqb m 0) y (cond (eqb n 0) z (f z y))
    go true true e d = rw (e, d) (sym (h (eqb-true n 0 e) (eqb-true m 0 d)))
    go true false e d = rw (e, d)
    go false true e d = rw (e, d)
    go false false e d = rw (e, d) (c y z)

chosen_none : (f : ℤ → ℤ → ℤ) → chosen f [] ≡ pos 0
unfolding chosen
chosen_none f = refl

unpaid : (f : ℤ → ℤ → ℤ) (os : List Outcome) → paid_lines (report_of os) ≡ 0 → chosen f (pays os) ≡ pos 0
unpaid f os e = go (pays os) (sym (paid_counted os) ∙ e)
  where
    go : (zs : List ℤ) → length zs ≡ 0 → chosen f zs ≡ pos 0
    go [] h = chosen_none f
    go (z ∷ zs) h = absurd (omega arith)

both_comm : (os ps : List Outcome) → both (report_of os) (report_of ps) ≡ both (report_of ps) (report_of os)
unfolding both report_of
both_comm os ps =
    let n = paid_lines (report_of os) in
    let m = paid_lines (report_of ps) in
    let l = either_comm lesser lesser_comm n m _ _ (λ e d. unpaid lesser os e ∙ sym (unpaid lesser ps d)) in
    let g = either_comm greater greater_comm n m _ _ (λ e d. unpaid greater os e ∙ sym (unpaid greater ps d)) in
    λ i. record {
      lines = add_comm (length os) (length ps) i;
      bad = add_comm (tally is_bad os) (tally is_bad ps) i;
      stops = λ s. add_comm (tally (is_stop s) os) (tally (is_stop s) ps) i;
      sum = +ℤ_comm (total (pays os)) (total (pays ps)) i;
      least = l i;
      largest = g i;
    }

few_comm : {os ps : List Outcome} → Few os → Few ps → combined (told os) (told ps) ≡ combined (told ps) (told os)
few_comm {os} {ps} h k = go (either LINES (length os + length ps))
  where
    go : (LINES < length os + length ps) ⊎ (length os + length ps ≤ LINES) → combined (told os) (told ps) ≡ combined (told ps) (told os)
    go (inl n) = add_many h k n ∙ sym (add_many k h (omega arith))
    go (inr n) =
        let e = report_join os ps ∙ both_comm os ps ∙ sym (report_join ps os) in
        add_few h k n ∙ ap (λ (r : Report). record { told = none; report = r }) e ∙ sym (add_few k h (omega arith))

-- whatever the two are
pub combined_comm : (r q : Report) → combined (plain r) (plain q) ≡ combined (plain q) (plain r)
combined_comm r q = go (outcome (possible r)) (outcome (possible q))
  where
    go : (possible r ≡ true) ⊎ (possible r ≡ false) → (possible q ≡ true) ⊎ (possible q ≡ false) → together r q ≡ together q r
    go (inr e) f = first_not r q e ∙ sym (second_not r q e)
    go (inl e) (inr f) = second_not q r f ∙ sym (first_not q r f)
    go (inl e) (inl f) =
        let a = possible_came r e in
        let b = possible_came q f in
        ap₂ together (sym a.reported) (sym b.reported) ∙ few_comm a.real b.real ∙ ap₂ together b.reported a.reported
