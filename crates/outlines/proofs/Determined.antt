-- The contract determines the outline: no two of them, and no two tables left, meet it for the same sheets and the same wanted
-- function. An answer can be told from its report.
use mathlib.Core.List.{List}
use mathlib.Core.Path.{◌≡◌, refl, sym, ap, ◌∙◌}
use Rattle.std.proofs.Common.{Result, Ok, Err}
use Prim.Native.Nat.{ℕ, ◌≤◌, ◌<◌}
use native.Mathlib.Decide.{dec_le}
use native.Mathlib.Omega.{arith}
use lib.ListN.{length}
use Rattle.language.specs.Sizes.{TABLE}
use Rattle.language.specs.Numbers.{Told, passed, refused, stopped, short_memory}
use Rattle.language.specs.Answers.{Origin, left}
use Rattle.language.specs.Edition.{pair_in}
use Rattle.language.specs.Outline.{is_number, Wanted, has_function, OutlineReport, outline_refusal, Outlined, outline_short, outline_refused}
use Rattle.language.specs.Outline.{outline_passed, Outline}
use Rattle.language.proofs.Answers.Editions.{pair_in_lawful}
use Rattle.language.proofs.Answers.Origins.{Lawful, Fate, fails, passes, fate, passes_is, refused_is}
use Rattle.numbers.proofs.Apart.{refusal_of, refusal_back}
use Rattle.outlines.specs.Reports.{outlined_report}
use Rattle.numbers.specs.declared.Refusal.{Refusal}
use Rattle.outlines.specs.declared.Found.{Found}

-- ---- one report

module _ {P : Type 0} {o : Origin P} (law : Lawful o) (x : Wanted) (table : ℕ) where
  abbrev said : Fate P → OutlineReport
  said (fails r p) = outline_refusal r
  said (passes ts p t) = record { told = passed; alone = is_number p.main; there = has_function x p.defs }

  long_said : {r : OutlineReport} → TABLE ≤ table → Outlined o x table r → said (fate law) ≡ r
  long_said h (outline_short l) = absurd (omega arith)
  long_said h (outline_refused k a) = ap said (refused_is law a)
  long_said h (outline_passed k a) = ap said (passes_is law a)

  short_said : {r : OutlineReport} → table < TABLE → Outlined o x table r → outline_refusal short_memory ≡ r
  short_said h (outline_short l) = refl
  short_said h (outline_refused k a) = absurd (omega arith)
  short_said h (outline_passed k a) = absurd (omega arith)

  pub one_outlined : {r q : OutlineReport} → Outlined o x table r → Outlined o x table q → r ≡ q
  one_outlined {r} {q} a b = go (dec_le TABLE table)
    where
      go : Dec (TABLE ≤ table) → r ≡ q
      go (yes h) = sym (long_said h a) ∙ long_said h b
      go (no h) = sym (short_said (omega (arith, h)) a) ∙ short_said (omega (arith, h)) b

pub one_outline : {P : Type 0} {o : Origin P} → Lawful o → (x : Wanted) {table : List ℕ} {r q : OutlineReport} {t' u' : List ℕ}
    → Outline o x table r t' → Outline o x table q u' → (r ≡ q) × (t' ≡ u')
one_outline law x {table} a b =
    let e = one_outlined law x (length table) a.answer b.answer in
    (e, a.table_left ∙ ap (λ (r : OutlineReport). left r.told TABLE table) e ∙ sym b.table_left)

-- ---- one answer

-- an outline tells no stop
abbrev outlined_by : Told → OutlineReport → Result Found Refusal
outlined_by passed r = Ok (record { alone = r.alone; there = r.there })
outlined_by (refused y) r = Err (refusal_of y)
outlined_by (stopped w) r = Ok (record { alone = r.alone; there = r.there })

abbrev outlined_of : OutlineReport → Result Found Refusal
outlined_of r = outlined_by r.told r

outlined_back : (r : Result Found Refusal) → outlined_of (outlined_report r) ≡ r
outlined_back (Ok x) = refl
outlined_back (Err y) = ap (λ (y : Refusal). Err y) (refusal_back y)

pub outline_determined : {edition : ℕ} {first second table t' u' : List ℕ} (x : Wanted) (r q : Result Found Refusal)
    → Outline (pair_in edition first second) x table (outlined_report r) t' → Outline (pair_in edition first second) x table (outlined_report q) u'
    → (r ≡ q) × (t' ≡ u')
outline_determined {edition} {first} {second} x r q a b =
    let e = one_outline (pair_in_lawful edition first second) x a b in
    (sym (outlined_back r) ∙ ap outlined_of e.0 ∙ outlined_back q, e.1)
