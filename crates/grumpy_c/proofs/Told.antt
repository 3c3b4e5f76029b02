-- How the cases of an answer are told in words, and the contracts of the C functions from those of the services.
use mathlib.Core.List.{List}
use mathlib.Core.Path.{◌≡◌, refl, sym, ap, subst, ◌∙◌}
use Rattle.std.proofs.Common.{Result, Ok, Err}
use Prim.Native.Nat.{ℕ, ◌≤◌, ◌<◌}
use native.Mathlib.Omega.{arith}
use lib.ListN.{length, set, length-set}
use mir.Syntax.{w64}
use mir.Val.{of_z}
use Rattle.language.specs.Meaning.{value_number}
use Rattle.language.specs.Numbers.{number, refusal_number, stop_number}
use Rattle.language.specs.Answers.{Origin, CheckReport, Check, RunReport, Run}
use Rattle.language.specs.Writing.{WriteReport, Write, Store}
use Rattle.language.specs.Edition.{text_in, stored_in}
use Rattle.language.proofs.Answers.Origins.{Lawful}
use Rattle.language.proofs.Answers.Editions.{text_in_lawful}
use Rattle.language.proofs.Answers.OneAnswer.{one_check, one_run}
use Rattle.language.proofs.Stored.Editions.{stored_in_lawful}
use Rattle.language.proofs.Stored.OneStoring.{one_store}
use Rattle.language.proofs.Writing.OneWriting.{one_write}
use Rattle.layout.specs.Values.{meant}
use Rattle.layout.specs.declared.values.Value.{Value}
use Rattle.numbers.specs.Meanings.{refusal_meant, stop_meant}
use Rattle.numbers.specs.declared.Refusal.{Refusal}
use Rattle.numbers.specs.declared.Stop.{Stop}
use Rattle.numbers.specs.declared.Located.{Located}
use Rattle.grumpy.specs.declared.answers.Ended.{Ended}
use Rattle.grumpy.specs.Reports.{CheckedAt, RefusedAt, RanAt, end_told, same, Written, checked_report, ran_report, wrote_report}
use Rattle.grumpy_c.specs.Reports.{three, six, check_words, run_words, ToldChecked, ToldRan, CheckedC, check_no_report, check_reported, RanC}
use Rattle.grumpy_c.specs.Reports.{run_no_report, run_reported, write_words, ToldWrote, Writing, WroteC, write_no_report, write_reported}

-- ---- lengths

pub three_long : (w v : List ℕ) (n i t x : ℕ) → 6 ≤ length w → v ≡ three w n i t → 4 < length (set v 3 x)
unfolding three
three_long w v n i t x h e =
    let l : length v ≡ length w = ap length e ∙ simp length-set in
    simp length-set (omega arith)

-- ---- the cases

pub told_stopped : (r : Ended ℕ) (s : Located Stop ℕ) (w w' : List ℕ) (n : ℕ) → r.ending.end ≡ Err s → n ≡ stop_number (stop_meant s.why)
    → w' ≡ six w n s.place r.type_number 0 r.ending.units r.ending.printed → ToldRan (Ok r) w w' n
unfolding value_number
told_stopped r s w w' n e m h =
    let told : Result Value (Located Stop ℕ) → RunReport ℕ = end_told 0 same r.type_number r.ending.units r.ending.printed in
    subst (λ (x : Result Value (Located Stop ℕ)). (n ≡ number (told x).told) × (w' ≡ run_words w (told x))) (sym e)
    (m, h ∙ ap (λ (n : ℕ). six w n s.place r.type_number 0 r.ending.units r.ending.printed) m)

pub told_not_run : (a : RanAt ℕ) (w w' : List ℕ) (r : RefusedAt ℕ) (n : ℕ) → a ≡ Err r → n ≡ refusal_number (refusal_meant r.why)
    → w' ≡ six w n r.place 0 0 0 0 → ToldRan a w w' n
unfolding value_number
told_not_run a w w' r n e m h =
    subst (λ (a : RanAt ℕ). ToldRan a w w' n) (sym e) (m, h ∙ ap (λ (n : ℕ). six w n r.place 0 0 0 0) m)

-- ---- the contracts

pub checked_c : {o : Origin ℕ} {table report table' report' : List ℕ} (a : CheckedAt ℕ) {n : ℕ} → 3 ≤ length report → Check o table (checked_report a) table'
    → ToldChecked a report report' n → CheckedC o table report table' report' n
checked_c a h c t = check_reported h c t.0 t.1

pub ran_c : {o : Origin ℕ} {table work out report table' work' out' report' : List ℕ} {allowance : ℕ} (a : RanAt ℕ) {n : ℕ} → 6 ≤ length report
    → Run o table work out allowance (ran_report a) table' work' out' → ToldRan a report report' n
    → RanC o table work out allowance report table' work' out' report' n
ran_c a h c t = run_reported h c t.0 t.1

pub wrote_c : (Writes : Writing) {table out report table' out' report' : List ℕ} (a : Written) {n : ℕ} → 3 ≤ length report
    → Writes table out (wrote_report a) table' out' → ToldWrote a report report' n → WroteC Writes table out report table' out' report' n
wrote_c Writes a h c t = write_reported h c t.0 t.1

-- ---- no two answers

module _ {o : Origin ℕ} (law : Lawful o) where
  one_checked_c : {table report t' r' t'' r'' : List ℕ} {m n : ℕ} → CheckedC o table report t' r' m → CheckedC o table report t'' r'' n
      → (m ≡ n) × (t' ≡ t'') × (r' ≡ r'')
  one_checked_c (check_no_report h a b c) (check_no_report k d e f) = (a ∙ sym d, b ∙ sym e, c ∙ sym f)
  one_checked_c (check_no_report h a b c) (check_reported k d e f) = absurd (omega arith)
  one_checked_c (check_reported h a b c) (check_no_report k d e f) = absurd (omega arith)
  one_checked_c {report = report} (check_reported h a b c) (check_reported k d e f) =
      let x = one_check law a d in
      (b ∙ ap (λ (r : CheckReport ℕ). number r.told) x.0 ∙ sym e, x.1, c ∙ ap (check_words report) x.0 ∙ sym f)

  one_ran_c : {table work out : List ℕ} {allowance : ℕ} {report t' w' o' r' t'' w'' o'' r'' : List ℕ} {m n : ℕ}
      → RanC o table work out allowance report t' w' o' r' m → RanC o table work out allowance report t'' w'' o'' r'' n
      → (m ≡ n) × (t' ≡ t'') × (w' ≡ w'') × (o' ≡ o'') × (r' ≡ r'')
  one_ran_c (run_no_report h a b c d e) (run_no_report k f g i j l) = (a ∙ sym f, b ∙ sym g, c ∙ sym i, d ∙ sym j, e ∙ sym l)
  one_ran_c (run_no_report h a b c d e) (run_reported k f g i) = absurd (omega arith)
  one_ran_c (run_reported h a b c) (run_no_report k f g i j l) = absurd (omega arith)
  one_ran_c {report = report} (run_reported h a b c) (run_reported k d e f) =
      let x = one_run law a d in
      (b ∙ ap (λ (r : RunReport ℕ). number r.told) x.0 ∙ sym e, x.1, x.2, x.3, c ∙ ap (run_words report) x.0 ∙ sym f)

-- of a promise that has one
one_wrote_c : (Writes : Writing) {table out report t' o' r' t'' o'' r'' : List ℕ} {m n : ℕ}
    → ((r q : WriteReport ℕ) → Writes table out r t' o' → Writes table out q t'' o'' → (r ≡ q) × (t' ≡ t'') × (o' ≡ o''))
    → WroteC Writes table out report t' o' r' m → WroteC Writes table out report t'' o'' r'' n → (m ≡ n) × (t' ≡ t'') × (o' ≡ o'') × (r' ≡ r'')
one_wrote_c Writes one (write_no_report h a b c d) (write_no_report k e f g i) = (a ∙ sym e, b ∙ sym f, c ∙ sym g, d ∙ sym i)
one_wrote_c Writes one (write_no_report h a b c d) (write_reported k e f g) = absurd (omega arith)
one_wrote_c Writes one (write_reported h a b c) (write_no_report k e f g i) = absurd (omega arith)
one_wrote_c Writes {report = report} one (write_reported h a b c) (write_reported k d e f) =
    let x = one _ _ a d in
    (b ∙ ap (λ (r : WriteReport ℕ). number r.told) x.0 ∙ sym e, x.1, x.2, c ∙ ap (write_words report) x.0 ∙ sym f)

module _ (edition : ℕ) (input : List ℕ) {table report t' r' t'' r'' : List ℕ} {m n : ℕ} where
  pub check_determined : CheckedC (text_in edition input) table report t' r' m → CheckedC (text_in edition input) table report t'' r'' n
      → (m ≡ n) × (t' ≡ t'') × (r' ≡ r'')
  check_determined a b = one_checked_c (text_in_lawful edition input) a b

  pub check_stored_determined : CheckedC (stored_in edition input) table report t' r' m → CheckedC (stored_in edition input) table report t'' r'' n
      → (m ≡ n) × (t' ≡ t'') × (r' ≡ r'')
  check_stored_determined a b = one_checked_c (stored_in_lawful edition input) a b

module _ (edition : ℕ) (input : List ℕ) {table work out : List ℕ} {allowance : ℕ} {report t' w' o' r' t'' w'' o'' r'' : List ℕ} {m n : ℕ} where
  pub run_determined : RanC (text_in edition input) table work out allowance report t' w' o' r' m
      → RanC (text_in edition input) table work out allowance report t'' w'' o'' r'' n → (m ≡ n) × (t' ≡ t'') × (w' ≡ w'') × (o' ≡ o'') × (r' ≡ r'')
  run_determined a b = one_ran_c (text_in_lawful edition input) a b

  pub run_stored_determined : RanC (stored_in edition input) table work out allowance report t' w' o' r' m
      → RanC (stored_in edition input) table work out allowance report t'' w'' o'' r'' n → (m ≡ n) × (t' ≡ t'') × (w' ≡ w'') × (o' ≡ o'') × (r' ≡ r'')
  run_stored_determined a b = one_ran_c (stored_in_lawful edition input) a b

module _ (edition : ℕ) (source : List ℕ) {table out report t' o' r' t'' o'' r'' : List ℕ} {m n : ℕ} where
  pub write_determined : WroteC (Write (text_in edition source)) table out report t' o' r' m
      → WroteC (Write (text_in edition source)) table out report t'' o'' r'' n → (m ≡ n) × (t' ≡ t'') × (o' ≡ o'') × (r' ≡ r'')
  write_determined a b = one_wrote_c (Write (text_in edition source)) (λ r q x y. one_write (text_in_lawful edition source) x y) a b

  pub store_determined : WroteC (Store (text_in edition source)) table out report t' o' r' m
      → WroteC (Store (text_in edition source)) table out report t'' o'' r'' n → (m ≡ n) × (t' ≡ t'') × (o' ≡ o'') × (r' ≡ r'')
  store_determined a b = one_wrote_c (Store (text_in edition source)) (λ r q x y. one_store (text_in_lawful edition source) x y) a b
