-- What `examine`, `examine_stored` and `examine_source` tell of a source in an edition is determined: that it passes and with which type, or why
-- not and where. So are the words past the required ones; in those lies the program, and the services clear them.
use mathlib.Core.List.{List}
use mathlib.Core.Path.{◌≡◌, refl, sym, subst, ◌∙◌}
use Prim.Native.Nat.{ℕ}
use native.Mathlib.Nat.{le_refl}
use Rattle.std.proofs.Common.{Ok, Err}
use Rattle.language.specs.Sizes.{TABLE}
use Rattle.language.specs.Numbers.{passed, refused}
use Rattle.language.specs.Answers.{Origin, CheckReport, check_report, Checked, check_refused, check_passed}
use Rattle.language.specs.Edition.{text_in, stored_in}
use Rattle.language.proofs.Answers.Editions.{text_in_lawful}
use Rattle.language.proofs.Answers.OneAnswer.{one_checked}
use Rattle.language.proofs.Answers.Origins.{Lawful}
use Rattle.language.proofs.Stored.Editions.{stored_in_lawful}
use Rattle.numbers.specs.Meanings.{refusal_meant}
use Rattle.sheets.specs.Sources.{origin_of}
use Rattle.sheets.specs.Sheets.{wiped, OfSource, Examined}
use Rattle.sheets.specs.declared.Source.{Source}
use Rattle.sheets.specs.Sheets.{Seen}
use Rattle.sheets.proofs.SourceLaws.{source_lawful, source_nowhere}

abbrev pub seen_report : Seen → CheckReport ℕ
seen_report (Ok p) = check_report passed 0 p.type_number
seen_report (Err e) = check_report (refused (refusal_meant e.why)) e.place 0

module _ (o : Origin ℕ) (law : Lawful o) (zero : o.nowhere ≡ 0) where
  -- it is what check says where the table is long enough
  seen_checked : (w : List ℕ) (s : Seen) → OfSource o w s → Checked o TABLE (seen_report s)
  seen_checked w (Ok q) p =
      subst (λ (i : ℕ). Checked o TABLE (check_report passed i q.type_number)) zero
      (subst (λ (n : ℕ). Checked o TABLE (check_report passed o.nowhere n)) (sym p.numbered) (check_passed (le_refl TABLE) p.passes))
  seen_checked w (Err e) p = check_refused (le_refl TABLE) p

  once : {w w₁ w₂ : List ℕ} (s q : Seen) → Examined o w w₁ s → Examined o w w₂ q
      → (seen_report s ≡ seen_report q) × (wiped w₁ ≡ wiped w₂)
  once {w} {w₁} {w₂} s q x y =
      (one_checked law TABLE (seen_checked w₁ s x.told) (seen_checked w₂ q y.told), x.rest ∙ sym y.rest)

pub examined_once : (number : ℕ) {source w w₁ w₂ : List ℕ} (s q : Seen) → Examined (text_in number source) w w₁ s
    → Examined (text_in number source) w w₂ q → (seen_report s ≡ seen_report q) × (wiped w₁ ≡ wiped w₂)
examined_once number {source} s q x y = once (text_in number source) (text_in_lawful number source) refl s q x y

pub stored_once : (number : ℕ) {input w w₁ w₂ : List ℕ} (s q : Seen) → Examined (stored_in number input) w w₁ s
    → Examined (stored_in number input) w w₂ q → (seen_report s ≡ seen_report q) × (wiped w₁ ≡ wiped w₂)
stored_once number {input} s q x y = once (stored_in number input) (stored_in_lawful number input) refl s q x y

pub source_once : (number : ℕ) (source : Source) {w w₁ w₂ : List ℕ} (s q : Seen) → Examined (origin_of source number) w w₁ s
    → Examined (origin_of source number) w w₂ q → (seen_report s ≡ seen_report q) × (wiped w₁ ≡ wiped w₂)
source_once number source s q x y =
    once (origin_of source number) (source_lawful source number) (source_nowhere source number) s q x y
