-- How the profile is told in words, the contract of its C function from that of the service, and that it has one answer.
use mathlib.Core.List.{List}
use mathlib.Core.Path.{◌≡◌, refl, sym, ap, subst, ◌∙◌}
use Prim.Native.Nat.{ℕ, ◌≤◌, ◌<◌}
use native.Mathlib.Omega.{arith}
use lib.ListN.{length, length-set}
use Rattle.language.specs.Numbers.{number, refusal_number}
use Rattle.language.specs.Edition.{text_in}
use Rattle.language.specs.Profile.{ProfileReport, Profile}
use Rattle.language.proofs.Answers.Editions.{text_in_lawful}
use Rattle.language.proofs.Profiles.OneProfile.{one_profile}
use Rattle.numbers.specs.Meanings.{refusal_meant}
use Rattle.numbers.specs.declared.Refusal.{Refusal}
use Rattle.grumpy.specs.Reports.{ProfiledAt, profiled_report}
use Rattle.grumpy_c.specs.Reports.{three}
use Rattle.grumpy_c.specs.Profilings.{PROFILE, four, profile_words, ToldProfiled, ProfiledC, profile_no_report, profile_reported}

pub fourth_inside : (w v : List ℕ) (n i t : ℕ) → 4 ≤ length w → v ≡ three w n i t → 3 < length v
unfolding three
fourth_inside w v n i t h e = let l : length v ≡ length w = ap length e ∙ simp length-set in omega (arith, h, l)

pub profiled_c : (edition : ℕ) (source table report table' report' : List ℕ) (a : ProfiledAt ℕ) (n : ℕ) → PROFILE ≤ length report
    → Profile (text_in edition source) table (profiled_report a) table' → ToldProfiled a report report' n
    → ProfiledC edition source table report table' report' n
profiled_c edition source table report table' report' a n h c t = profile_reported h c t.0 t.1

pub profile_determined : {edition : ℕ} {source table report t' r' t'' r'' : List ℕ} {m n : ℕ} → ProfiledC edition source table report t' r' m
    → ProfiledC edition source table report t'' r'' n → (m ≡ n) × (t' ≡ t'') × (r' ≡ r'')
profile_determined (profile_no_report h a b c) (profile_no_report k d e f) = (a ∙ sym d, b ∙ sym e, c ∙ sym f)
profile_determined (profile_no_report h a b c) (profile_reported k d e f) = absurd (omega arith)
profile_determined (profile_reported h a b c) (profile_no_report k d e f) = absurd (omega arith)
profile_determined {edition} {source} {report = report} (profile_reported h a b c) (profile_reported k d e f) =
    let x = one_profile (text_in_lawful edition source) a d in
    (b ∙ ap (λ (r : ProfileReport ℕ). number r.told) x.0 ∙ sym e, x.1, c ∙ ap (profile_words report) x.0 ∙ sym f)
