-- From a sheet that was examined to its outline.
use lib.ListN.{length}
use mathlib.Core.Bool.{Bool}
use mathlib.Core.List.{List}
use mathlib.Core.Path.{◌≡◌, refl, sym, ap, ap₂, subst, ◌∙◌}
use Rattle.std.proofs.Common.{Result, Ok, Err}
use Prim.Native.Nat.{ℕ, ◌≤◌, ◌<◌}
use Rattle.language.specs.Sizes.{TABLE}
use Rattle.language.specs.Numbers.{passed, short_memory}
use Rattle.language.specs.Answers.{Origin, left, cleared}
use Rattle.language.specs.Edition.{text_in, pair_in}
use Rattle.language.specs.Pairs.{joined}
use Rattle.language.specs.Outline.{is_number, Wanted, has_function, OutlineReport, outline_refusal, outline_short, outline_refused}
use Rattle.language.specs.Outline.{outline_passed, Outline}
use Rattle.language.proofs.Answers.Editions.{text_in_lawful}
use Rattle.language.proofs.Answers.Origins.{refused_clears}
use Rattle.language.proofs.Answers.Pairs.{passes_joined, refused_joined}
use Rattle.numbers.specs.declared.Refusal.{Refusal}
use Rattle.layout.specs.Table.{zeros}
use Rattle.layout.proofs.Wiped.{zeros_cleared}
use Rattle.sheets.specs.Sheets.{Seen, Examined}
use Rattle.outlines.specs.Reports.{outlined_report}
use Rattle.outlines.specs.Words.{Rooted, Drawn}
use Rattle.outlines.specs.declared.Found.{Found}
use Rattle.outlines.proofs.Drawing.{held_rows, held_told}

-- ---- the service

pub outline_is_short : (edition : ℕ) (first second w : List ℕ) (x : Wanted) → length w < TABLE
    → Outline (pair_in edition first second) x w (outline_refusal short_memory) w
unfolding left
outline_is_short edition first second w x h = record { answer = outline_short h; table_left = refl }

pub examined_rooted : (o : Origin ℕ) (w w₁ : List ℕ) (s : Seen) → Examined o w w₁ s → Rooted w₁ s
examined_rooted o w w₁ (Ok P) e = held_rows e.told.holds
examined_rooted o w w₁ (Err y) e = tt

module _ (edition : ℕ) (first second w w₁ w₂ : List ℕ) (x : Wanted) (h : TABLE ≤ length w) (e : w₂ ≡ zeros w₁ 0 TABLE) where
  -- what was examined is the joined text; its answer is that of the two sheets
  abbrev text : List ℕ
  text = joined first second

  cleared_table : (s : Seen) → Examined (text_in edition text) w w₁ s → w₂ ≡ cleared TABLE w
  cleared_table s a = e ∙ a.rest ∙ zeros_cleared TABLE w h

  pub outline_is : (s : Seen) (r : Result Found Refusal) → Examined (text_in edition text) w w₁ s → Drawn text w₁ s x r
      → Outline (pair_in edition first second) x w (outlined_report r) w₂
  unfolding left
  outline_is (Ok P) r a d =
      let p = a.told in
      let z = held_told edition text x p.passes p.holds in
      let k : OutlineReport = record { told = passed; alone = is_number p.program.main; there = has_function x p.program.defs } in
      let f : outlined_report r ≡ k = ap outlined_report d ∙ ap₂ (λ (a b : Bool). record { told = passed; alone = a; there = b }) z.0 z.1 in
      subst (λ (q : OutlineReport). Outline (pair_in edition first second) x w q w₂) (sym f)
      record { answer = outline_passed h (passes_joined edition first second p.passes); table_left = cleared_table (Ok P) a }
  outline_is (Err y) r a d =
      let c = refused_clears (text_in_lawful edition text) a.told in
      subst (λ (q : Result Found Refusal). Outline (pair_in edition first second) x w (outlined_report q) w₂) (sym d)
      record { answer = outline_refused h (refused_joined edition first second a.told); table_left = rw c (cleared_table (Err y) a) }
