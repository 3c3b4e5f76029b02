-- How the cases of an answer for two sheets are told in words, and the contracts of the C functions from those of the services.
use mathlib.Core.List.{List}
use mathlib.Core.Path.{◌≡◌, refl, sym, ap, ap₂, subst, ◌∙◌}
use Rattle.std.proofs.Common.{Result, Ok, Err}
use Prim.Native.Nat.{ℕ, ◌≤◌}
use native.Mathlib.Omega.{arith}
use lib.ListN.{length, length-set}
use mir.Syntax.{w64}
use mir.Val.{of_z}
use Rattle.language.specs.Meaning.{value_number}
use Rattle.language.specs.Numbers.{number, refusal_number, stop_number}
use Rattle.language.specs.Answers.{CheckReport, Check, RunReport, Run}
use Rattle.language.specs.Edition.{pair_in}
use Rattle.language.specs.Pairs.{Place, front}
use Rattle.language.proofs.Answers.Editions.{pair_in_lawful}
use Rattle.language.proofs.Answers.OneAnswer.{one_check, one_run}
use Rattle.layout.specs.Values as Values
use Rattle.layout.specs.declared.values.Value.{Value}
use Rattle.numbers.specs.Meanings.{refusal_meant, stop_meant}
use Rattle.numbers.specs.declared.Refusal.{Refusal}
use Rattle.numbers.specs.declared.Stop.{Stop}
use Rattle.pairs.specs.Spots.{meant}
use Rattle.pairs.specs.declared.Spot.{Spot}
use Rattle.numbers.specs.declared.Located.{Located}
use Rattle.grumpy.specs.declared.answers.Ended.{Ended}
use Rattle.grumpy.specs.Reports.{CheckedAt, RefusedAt, RanAt, end_told, pair_checked_report, pair_ran_report}
use Rattle.grumpy_c.specs.Reports.{three, six}
use Rattle.grumpy_c.specs.Pairs.{spot_words, pair_check_words, pair_run_words, ToldPairChecked, ToldPairRan, PairCheckedC}
use Rattle.grumpy_c.specs.Pairs.{check_no_report, check_reported, PairRanC, run_no_report, run_reported}

-- ---- lengths

pub three_same : (w v : List ℕ) (n i t : ℕ) → v ≡ three w n i t → length v ≡ length w
unfolding three
three_same w v n i t e = ap length e ∙ simp length-set

pub six_same : (w v : List ℕ) (n i t x u p : ℕ) → v ≡ six w n i t x u p → length v ≡ length w
unfolding six three
six_same w v n i t x u p e = ap length e ∙ simp length-set

-- ---- the cases

pub told_stopped : (r : Ended Spot) (s : Located Stop Spot) (w w' : List ℕ) (n : ℕ) → r.ending.end ≡ Err s → n ≡ stop_number (stop_meant s.why)
    → w' ≡ spot_words (six w n s.place.at r.type_number 0 r.ending.units r.ending.printed) 6 (meant s.place) → ToldPairRan (Ok r) w w' n
unfolding value_number
told_stopped r s w w' n e m h =
    let told : Result Value (Located Stop Spot) → RunReport Place = end_told front meant r.type_number r.ending.units r.ending.printed in
    subst (λ (x : Result Value (Located Stop Spot)). (n ≡ number (told x).told) × (w' ≡ pair_run_words w (told x))) (sym e)
    (m, h ∙ ap (λ (n : ℕ). spot_words (six w n s.place.at r.type_number 0 r.ending.units r.ending.printed) 6 (meant s.place)) m)

pub told_not_run : (a : RanAt Spot) (w w' : List ℕ) (r : RefusedAt Spot) (n : ℕ) → a ≡ Err r → n ≡ refusal_number (refusal_meant r.why)
    → w' ≡ spot_words (six w n r.place.at 0 0 0 0) 6 (meant r.place) → ToldPairRan a w w' n
unfolding value_number
told_not_run a w w' r n e m h =
    subst (λ (a : RanAt Spot). ToldPairRan a w w' n) (sym e)
    (m, h ∙ ap (λ (n : ℕ). spot_words (six w n r.place.at 0 0 0 0) 6 (meant r.place)) m)

-- ---- the contracts

pub pair_checked_c : (edition : ℕ) (first second table report table' report' : List ℕ) (a : CheckedAt Spot) (n : ℕ) → 6 ≤ length report
    → Check (pair_in edition first second) table (pair_checked_report a) table' → ToldPairChecked a report report' n
    → PairCheckedC edition first second table report table' report' n
pair_checked_c edition first second table report table' report' a n h c t = check_reported h c t.0 t.1

pub pair_ran_c : (edition : ℕ) (first second table work out report table' work' out' report' : List ℕ) (allowance : ℕ) (a : RanAt Spot) (n : ℕ)
    → 9 ≤ length report → Run (pair_in edition first second) table work out allowance (pair_ran_report a) table' work' out' → ToldPairRan a report report' n
    → PairRanC edition first second table work out allowance report table' work' out' report' n
pair_ran_c edition first second table work out report table' work' out' report' allowance a n h c t = run_reported h c t.0 t.1

-- ---- no two answers

pub check_pair_determined : {edition : ℕ} {first second table report t' r' t'' r'' : List ℕ} {m n : ℕ} → PairCheckedC edition first second table report t' r' m
    → PairCheckedC edition first second table report t'' r'' n → (m ≡ n) × (t' ≡ t'') × (r' ≡ r'')
check_pair_determined (check_no_report h a b c) (check_no_report k d e f) = (a ∙ sym d, b ∙ sym e, c ∙ sym f)
check_pair_determined (check_no_report h a b c) (check_reported k d e f) = absurd (omega arith)
check_pair_determined (check_reported h a b c) (check_no_report k d e f) = absurd (omega arith)
check_pair_determined {edition} {first} {second} {report = report} (check_reported h a b c) (check_reported k d e f) =
    let x = one_check (pair_in_lawful edition first second) a d in
    (b ∙ ap (λ (r : CheckReport Place). number r.told) x.0 ∙ sym e, x.1, c ∙ ap (pair_check_words report) x.0 ∙ sym f)

pub run_pair_determined : {edition : ℕ} {first second table work out : List ℕ} {allowance : ℕ} {report t' w' o' r' t'' w'' o'' r'' : List ℕ} {m n : ℕ}
    → PairRanC edition first second table work out allowance report t' w' o' r' m
    → PairRanC edition first second table work out allowance report t'' w'' o'' r'' n
    → (m ≡ n) × (t' ≡ t'') × (w' ≡ w'') × (o' ≡ o'') × (r' ≡ r'')
run_pair_determined (run_no_report h a b c d e) (run_no_report k f g i j l) = (a ∙ sym f, b ∙ sym g, c ∙ sym i, d ∙ sym j, e ∙ sym l)
run_pair_determined (run_no_report h a b c d e) (run_reported k f g i) = absurd (omega arith)
run_pair_determined (run_reported h a b c) (run_no_report k f g i j l) = absurd (omega arith)
run_pair_determined {edition} {first} {second} {report = report} (run_reported h a b c) (run_reported k d e f) =
    let x = one_run (pair_in_lawful edition first second) a d in
    (b ∙ ap (λ (r : RunReport Place). number r.told) x.0 ∙ sym e, x.1, x.2, x.3, c ∙ ap (pair_run_words report) x.0 ∙ sym f)
