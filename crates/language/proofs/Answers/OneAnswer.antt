-- Of every lawful origin and everything lent with it there is exactly one answer of check and exactly one of run: report,
-- bytes printed, and what is left in the two memories and the output.
use mathlib.Core.List.{List, [], ◌++◌}
use mathlib.Core.Logic.{◌⊎◌, inl, inr}
use mathlib.Core.Option.{Option, none, some}
use mathlib.Core.Path.{◌≡◌, refl, sym, ap, ◌∙◌}
use Prim.Native.Nat.{ℕ, ◌≤◌, ◌<◌}
use native.Mathlib.Decide.{dec_le}
use native.Mathlib.Omega.{arith}
use lib.ListN.{length, drop}
use Rattle.language.specs.Sizes.{Sizes, ALLOWANCE, WORK}
use Rattle.language.specs.Tokens.{Token}
use Rattle.language.specs.Trees.{Ty}
use Rattle.language.specs.Meaning.{run, type_number}
use Rattle.language.specs.Numbers.{short_memory, large_allowance, passed, refused}
use Rattle.language.specs.Answers.{Origin, left, Ending, ending, CheckReport, check_report, CheckedUnder, check_short, check_refused, check_passed}
use Rattle.language.specs.Answers.{CheckUnder, RunReport, Lent, EnoughUnder, refusal, after_run, RanUnder, run_short, run_large, run_refused}
use Rattle.language.specs.Answers.{run_ended, RunUnder}
use Rattle.language.proofs.Answers.Endings.{some_ending}
use Rattle.language.proofs.Answers.Origins.{LawfulUnder, Fate, fails, passes, Comes, fate, fate_comes, passes_is, refused_is}

-- ---- check

module _ {σ : Sizes} {P : Type 0} {o : Origin P} (law : LawfulUnder σ o) (table : ℕ) where
  abbrev said : Fate P → CheckReport P
  said (fails r x) = check_report (refused r) x 0
  said (passes ts p t) = check_report passed o.nowhere (type_number t)

  long_said : {r : CheckReport P} → σ.table ≤ table → CheckedUnder σ o table r → said (fate law) ≡ r
  long_said h (check_short l) = absurd (omega arith)
  long_said h (check_refused k a) = ap said (refused_is law a)
  long_said h (check_passed k a) = ap said (passes_is law a)

  short_said : {r : CheckReport P} → table < σ.table → CheckedUnder σ o table r → check_report (refused short_memory) o.nowhere 0 ≡ r
  short_said h (check_short l) = refl
  short_said h (check_refused k a) = absurd (omega arith)
  short_said h (check_passed k a) = absurd (omega arith)

  pub one_checked : {r q : CheckReport P} → CheckedUnder σ o table r → CheckedUnder σ o table q → r ≡ q
  one_checked {r} {q} a b = go (dec_le σ.table table)
    where
      go : Dec (σ.table ≤ table) → r ≡ q
      go (yes h) = sym (long_said h a) ∙ long_said h b
      go (no h) = sym (short_said (omega (arith, h)) a) ∙ short_said (omega (arith, h)) b

  pub some_checked : (r : CheckReport P) × CheckedUnder σ o table r
  some_checked = go (dec_le σ.table table) (fate law) (fate_comes law)
    where
      go : Dec (σ.table ≤ table) → (f : Fate P) → Comes σ o f → (r : CheckReport P) × CheckedUnder σ o table r
      go (yes h) (fails r x) a = (_, check_refused h a)
      go (yes h) (passes ts p t) a = (_, check_passed h a)
      go (no h) f a = (_, check_short (omega (arith, h)))

module _ {σ : Sizes} {P : Type 0} {o : Origin P} (law : LawfulUnder σ o) where
  -- no two answers of check, nor two tables left
  pub one_check : {table : List ℕ} {r q : CheckReport P} {t' u' : List ℕ}
      → CheckUnder σ o table r t' → CheckUnder σ o table q u' → (r ≡ q) × (t' ≡ u')
  one_check {table} a b =
      let e = one_checked law (length table) a.answer b.answer in
      (e, a.table_left ∙ ap (λ (r : CheckReport P). left r.told σ.table table) e ∙ sym b.table_left)

  -- and one there is
  pub some_check : (table : List ℕ) → (r : CheckReport P) × (t' : List ℕ) × CheckUnder σ o table r t'
  some_check table =
      let a = some_checked law (length table) in
      (a.0, left a.0.told σ.table table, record { answer = a.1; table_left = refl })

-- ---- run

-- a report and the bytes printed
record Spoken (P : Type 0) : Type 0 where
  report : RunReport P
  printed : List ℕ

abbrev spoken : {P : Type 0} → RunReport P → List ℕ → Spoken P
spoken r bs = record { report = r; printed = bs }

module _ {σ : Sizes} {P : Type 0} {o : Origin P} (law : LawfulUnder σ o) (l : Lent) where
  -- where there is no end anything is said
  abbrev at_end : List Token → Ty → Option Ending → Spoken P
  at_end ts t none = spoken (refusal short_memory o.nowhere) []
  at_end ts t (some e) = spoken (after_run o ts t e) e.printed

  abbrev speaks : Fate P → Spoken P
  speaks (fails r x) = spoken (refusal r x) []
  speaks (passes ts p t) = at_end ts t (ending l.allowance (run p l.allowance l.output))

  abbrev Short : Type 0
  Short = (l.table < σ.table) ⊎ (l.work < WORK)

  not_enough : Short → EnoughUnder σ l → ⊥
  not_enough (inl h) e = omega (arith, e.table)
  not_enough (inr h) e = omega (arith, e.work)

  enough? : EnoughUnder σ l ⊎ Short
  enough? = go (dec_le σ.table l.table) (dec_le WORK l.work)
    where
      go : Dec (σ.table ≤ l.table) → Dec (WORK ≤ l.work) → EnoughUnder σ l ⊎ Short
      go (yes a) (yes b) = inl record { table = a; work = b }
      go (yes a) (no b) = inr (inr (omega (arith, b)))
      go (no a) d = inr (inl (omega (arith, a)))

  -- what is said where memory is short, where the allowance is large, and else
  short_ran : {r : RunReport P} {bs : List ℕ} → Short → RanUnder σ o l r bs → spoken (refusal short_memory o.nowhere) [] ≡ spoken r bs
  short_ran h (run_short k) = refl
  short_ran h (run_large e k) = absurd (not_enough h e)
  short_ran h (run_refused e k a) = absurd (not_enough h e)
  short_ran h (run_ended e k a x) = absurd (not_enough h e)

  large_ran : {r : RunReport P} {bs : List ℕ} → EnoughUnder σ l → ALLOWANCE < l.allowance → RanUnder σ o l r bs
      → spoken (refusal large_allowance o.nowhere) [] ≡ spoken r bs
  large_ran e h (run_short k) = absurd (not_enough k e)
  large_ran e h (run_large d k) = refl
  large_ran e h (run_refused d k a) = absurd (omega arith)
  large_ran e h (run_ended d k a x) = absurd (omega arith)

  fair_ran : {r : RunReport P} {bs : List ℕ} → EnoughUnder σ l → l.allowance ≤ ALLOWANCE → RanUnder σ o l r bs → speaks (fate law) ≡ spoken r bs
  fair_ran e h (run_short k) = absurd (not_enough k e)
  fair_ran e h (run_large d k) = absurd (omega arith)
  fair_ran e h (run_refused d k a) = ap speaks (refused_is law a)
  fair_ran e h (run_ended {ts} {t = t} d k a x) = ap speaks (passes_is law a) ∙ ap (at_end ts t) x

  same_ran : {r q : RunReport P} {bs cs : List ℕ} → EnoughUnder σ l ⊎ Short → Dec (l.allowance ≤ ALLOWANCE) → RanUnder σ o l r bs → RanUnder σ o l q cs
      → spoken r bs ≡ spoken q cs
  same_ran (inl e) (yes h) a b = sym (fair_ran e h a) ∙ fair_ran e h b
  same_ran (inl e) (no h) a b = sym (large_ran e (omega (arith, h)) a) ∙ large_ran e (omega (arith, h)) b
  same_ran (inr k) d a b = sym (short_ran k a) ∙ short_ran k b

  pub one_ran : {r q : RunReport P} {bs cs : List ℕ} → RanUnder σ o l r bs → RanUnder σ o l q cs → (r ≡ q) × (bs ≡ cs)
  one_ran a b =
      let e = same_ran enough? (dec_le l.allowance ALLOWANCE) a b in
      (ap (λ (x : Spoken P). x.report) e, ap (λ (x : Spoken P). x.printed) e)

  pub some_ran : (r : RunReport P) × (bs : List ℕ) × RanUnder σ o l r bs
  some_ran = go enough? (dec_le l.allowance ALLOWANCE) (fate law) (fate_comes law)
    where
      go : EnoughUnder σ l ⊎ Short → Dec (l.allowance ≤ ALLOWANCE) → (f : Fate P) → Comes σ o f → (r : RunReport P) × (bs : List ℕ) × RanUnder σ o l r bs
      go (inl e) (yes h) (fails r x) a = (_, _, run_refused e h a)
      go (inl e) (yes h) (passes ts p t) a =
          let z = some_ending p t l.allowance l.output a.proper.typed in
          (_, _, run_ended e h a z.1)
      go (inl e) (no h) f a = (_, _, run_large e (omega (arith, h)))
      go (inr k) d f a = (_, _, run_short k)

-- and what is left of everything that a run was lent
pub record SomeRun (σ : Sizes) {P : Type 0} (o : Origin P) (table work output : List ℕ) (allowance : ℕ) : Type 0 where
  pub report : RunReport P
  pub table_left : List ℕ
  pub work_left : List ℕ
  pub output_left : List ℕ
  pub answer : RunUnder σ o table work output allowance report table_left work_left output_left

module _ {σ : Sizes} {P : Type 0} {o : Origin P} (law : LawfulUnder σ o) where
  -- no two answers of run, nor memories or outputs left
  pub one_run : {table work output : List ℕ} {allowance : ℕ} {r q : RunReport P} {t' w' o' t'' w'' o'' : List ℕ}
      → RunUnder σ o table work output allowance r t' w' o' → RunUnder σ o table work output allowance q t'' w'' o''
      → (r ≡ q) × (t' ≡ t'') × (w' ≡ w'') × (o' ≡ o'')
  one_run {table} {work} {output} a b =
      let e = one_ran law _ a.answer b.answer in (
        e.0,
        a.table_left ∙ ap (λ (r : RunReport P). left r.told σ.table table) e.0 ∙ sym b.table_left,
        a.work_left ∙ ap (λ (r : RunReport P). left r.told WORK work) e.0 ∙ sym b.work_left,
        a.output_left ∙ ap (λ (bs : List ℕ). bs ++ drop (length bs) output) e.1 ∙ sym b.output_left,
      )

  -- and one there is
  pub some_run : (table work output : List ℕ) (allowance : ℕ) → SomeRun σ o table work output allowance
  some_run table work output allowance =
      let a = some_ran law record { table = length table; work = length work; output = length output; allowance = allowance } in
      record {
        report = a.0;
        table_left = left a.0.told σ.table table;
        work_left = left a.0.told WORK work;
        output_left = a.1 ++ drop (length a.1) output;
        answer = record { printed = a.1; answer = a.2; table_left = refl; work_left = refl; output_left = refl };
      }
