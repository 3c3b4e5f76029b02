-- What is told of an input is what its two parts are told, combined, where the first ends at a line's end (R14.6, R14.8).
use lib.Dec.{leb}
use lib.ListN.{length, take, length-append}
use lib.Seq.{take_all}
use mathlib.Core.Bool.{Bool, true, false, cond}
use mathlib.Core.List.{List, [], ◌∷◌, ◌++◌}
use mathlib.Core.Logic.{◌⊎◌, inl, inr}
use mathlib.Core.Option.{Option, none, some}
use mathlib.Core.Path.{◌≡◌, refl, ap, ap₂, subst, ◌∙◌}
use borrow.Author.Tests.{lt-ltb, le-ltb, le-leb, lt-leb}
use native.Mathlib.Omega.{arith}
use Prim.Native.Char.{code}
use Prim.Native.Nat.{ℕ, ◌+◌, ◌≤◌, ◌<◌}
use Rattle.language.specs.Sizes.{LINES}
use Rattle.language.specs.Text.{is_in_line}
use Rattle.language.specs.Answers.{Lent}
use Rattle.language.specs.Shift.{Line, led_by, lines, Outcome, AllCome, none_comes, one_comes, Report, report_of, ShiftRefusal}
use Rattle.language.specs.Shift.{many_lines, told_of, Shift}
use Rattle.language.specs.Combining.{addable, without_sums, together, combined, shown, AtLineEnd, at_front, behind_feed}
use Rattle.language.proofs.Text.Choices.{either}
use Rattle.language.proofs.Shift.LineOutcomes.{Admitted, one_outcome}
use Rattle.language.proofs.Shift.Totals.{all_in_range, come_long}
use Rattle.language.proofs.Shift.Joins.{report_join}
use Rattle.language.proofs.Shift.Possible.{Few, report_possible}

-- ---- the lines

-- one byte more in front: of the first line, or a line feed by itself
abbrev fronted : Bool → ℕ → List Line → List Line
fronted t c ls = cond t (led_by c ls) (record { bytes = []; ended = true } ∷ ls)

front_some : (t : Bool) (c : ℕ) (ls : List Line) → 0 < length (fronted t c ls)
front_some true c [] = omega arith
front_some true c (l ∷ ls) = omega arith
front_some false c ls = omega arith

front_join : (t : Bool) (c : ℕ) (ls ms : List Line) → 0 < length ls → fronted t c (ls ++ ms) ≡ fronted t c ls ++ ms
front_join true c [] ms h = absurd (omega arith)
front_join true c (l ∷ ls) ms h = refl
front_join false c ls ms h = refl

fed_some : (bytes : List ℕ) → 0 < length (lines (bytes ++ (code "\n" ∷ [])))
unfolding lines is_in_line
fed_some [] = omega arith
fed_some (c ∷ bytes) = front_some (is_in_line c) c (lines (bytes ++ (code "\n" ∷ [])))

fed_join : (bytes b : List ℕ) → lines ((bytes ++ (code "\n" ∷ [])) ++ b) ≡ lines (bytes ++ (code "\n" ∷ [])) ++ lines b
unfolding lines is_in_line
fed_join [] b = refl
fed_join (c ∷ bytes) b =
    let t = is_in_line c in
    ap (fronted t c) (fed_join bytes b) ∙ front_join t c (lines (bytes ++ (code "\n" ∷ []))) (lines b) (fed_some bytes)

pub lines_join : {a : List ℕ} → AtLineEnd a → (b : List ℕ) → lines (a ++ b) ≡ lines a ++ lines b
unfolding lines
lines_join at_front b = refl
lines_join (behind_feed bytes) b = fed_join bytes b

-- ---- what they come to

module _ {ed : ℕ} {book : List ℕ} {l : Lent} where
  come_cut : (xs : List Line) {ys : List Line} {os : List Outcome} {o o' : List ℕ} → AllCome ed book l (xs ++ ys) os o o'
      → (ps qs : List Outcome) × (m : List ℕ) × AllCome ed book l xs ps o m × AllCome ed book l ys qs m o' × (os ≡ ps ++ qs)
  come_cut [] x = ([], _, _, none_comes, x, refl)
  come_cut (line ∷ xs) (one_comes {o = z} c x) =
      let r = come_cut xs x in
      (z ∷ r.0, r.1, r.2, one_comes c r.3, r.4, ap (λ (os : List Outcome). z ∷ os) r.5)

  -- whatever the lent output held before
  same_outcomes : {ls : List Line} {os ps : List Outcome} {o o' p p' : List ℕ} → AllCome ed book l ls os o o' → AllCome ed book l ls ps p p' → os ≡ ps
  same_outcomes none_comes none_comes = refl
  same_outcomes (one_comes x xs) (one_comes y ys) =
      ap₂ (λ (o : Outcome) (os : List Outcome). o ∷ os) (one_outcome x y).0 (same_outcomes xs ys)

-- ---- what is told

told_many : (ls : List Line) → LINES < length ls → told_of ls ≡ some many_lines
unfolding told_of
told_many ls h = rw (lt-ltb LINES (length ls) h)

told_few : (ls : List Line) → length ls ≤ LINES → told_of ls ≡ none
unfolding told_of
told_few ls h = rw (le-ltb LINES (length ls) h)

pub lines_told : (os : List Outcome) → (report_of os).lines ≡ length os
unfolding report_of
lines_told os = refl

module _ {os ps : List Outcome} (h : Few os) (k : Few ps) where
  pub add_few : length os + length ps ≤ LINES → together (report_of os) (report_of ps) ≡ record { told = none; report = report_of (os ++ ps) }
  unfolding together addable
  add_few n =
      let e : leb ((report_of os).lines + (report_of ps).lines) LINES ≡ true = rw (lines_told os, lines_told ps) (le-leb _ _ n) in
      rw (report_possible h, report_possible k, e, report_join os ps)

  pub add_many : LINES < length os + length ps → together (report_of os) (report_of ps) ≡ without_sums many_lines
  unfolding together addable
  add_many n =
      let e : leb ((report_of os).lines + (report_of ps).lines) LINES ≡ false = rw (lines_told os, lines_told ps) (lt-leb _ _ n) in
      rw (report_possible h, report_possible k, e)

module _ {ed : ℕ} {book : List ℕ} {l : Lent} (ready : Admitted ed book l) where
  -- a part with as many lines as a shift may have
  part_few : {ls : List Line} {os : List Outcome} {o o' : List ℕ} → length ls ≤ LINES → AllCome ed book l (take LINES ls) os o o'
      → AllCome ed book l ls os o o' × Few os × (length os ≡ length ls)
  part_few {ls} {os} {o} {o'} h x =
      let y = subst (λ (ls : List Line). AllCome ed book l ls os o o') (take_all LINES ls h) x in
      let n = come_long y in
      (y, record { few = omega arith; ints = all_in_range ready x }, n)

  module _ {a b : List ℕ} (w : AtLineEnd a) {oa oa' ob ob' o o' : List ℕ} {ta tb t : Option ShiftRefusal} {ra rb r : Report}
      (x : Shift ed book l a oa ta ra oa') (y : Shift ed book l b ob tb rb ob') (z : Shift ed book l (a ++ b) o t r o') where
    long : length (lines (a ++ b)) ≡ length (lines a) + length (lines b)
    long = ap length (lines_join w b) ∙ length-append (lines a) (lines b)

    -- neither part has too many lines
    by_sum : length (lines a) ≤ LINES → length (lines b) ≤ LINES
        → (LINES < length (lines a) + length (lines b)) ⊎ (length (lines a) + length (lines b) ≤ LINES)
        → shown (told_of (lines (a ++ b))) r ≡ together ra rb
    by_sum h k c =
        let p = part_few h x.come in
        let q = part_few k y.come in
        rw (x.reports, y.reports, z.reports) (go p q c)
      where
        go : AllCome ed book l (lines a) x.outcomes oa oa' × Few x.outcomes × (length x.outcomes ≡ length (lines a))
            → AllCome ed book l (lines b) y.outcomes ob ob' × Few y.outcomes × (length y.outcomes ≡ length (lines b))
            → (LINES < length (lines a) + length (lines b)) ⊎ (length (lines a) + length (lines b) ≤ LINES)
            → shown (told_of (lines (a ++ b))) (report_of z.outcomes) ≡ together (report_of x.outcomes) (report_of y.outcomes)
        go p q (inl m) = rw (told_many (lines (a ++ b)) (omega (arith, long)), add_many p.1 q.1 (omega (arith, p.2, q.2)))
        go p q (inr m) =
            let f = (part_few {ls = lines (a ++ b)} (omega (arith, long)) z.come).0 in
            let g = come_cut (lines a) (subst (λ (ls : List Line). AllCome ed book l ls z.outcomes o o') (lines_join w b) f) in
            let e : z.outcomes ≡ x.outcomes ++ y.outcomes =
            rw g.5 (ap₂ (λ (os ps : List Outcome). os ++ ps) (same_outcomes g.3 p.0) (same_outcomes g.4 q.0)) in
            rw (told_few (lines (a ++ b)) (omega (arith, long)), add_few p.1 q.1 (omega (arith, p.2, q.2)), e)

    by_parts : (LINES < length (lines a)) ⊎ (length (lines a) ≤ LINES) → (LINES < length (lines b)) ⊎ (length (lines b) ≤ LINES)
        → shown (told_of (lines (a ++ b))) r ≡ combined (record { told = told_of (lines a); report = ra }) (record { told = told_of (lines b); report = rb })
    by_parts (inl h) (inl k) = rw (told_many (lines a) h, told_many (lines b) k, told_many (lines (a ++ b)) (omega (arith, long)))
    by_parts (inl h) (inr k) = rw (told_many (lines a) h, told_few (lines b) k, told_many (lines (a ++ b)) (omega (arith, long)))
    by_parts (inr h) (inl k) = rw (told_few (lines a) h, told_many (lines b) k, told_many (lines (a ++ b)) (omega (arith, long)))
    by_parts (inr h) (inr k) = rw (told_few (lines a) h, told_few (lines b) k) (by_sum h k (either LINES (length (lines a) + length (lines b))))

    -- the number of the whole, and its report where that is no refusal
    pub combined_is_whole : shown t r ≡ combined (record { told = ta; report = ra }) (record { told = tb; report = rb })
    combined_is_whole =
        rw (x.refuses, y.refuses, z.refuses) (by_parts (either LINES (length (lines a))) (either LINES (length (lines b))))
