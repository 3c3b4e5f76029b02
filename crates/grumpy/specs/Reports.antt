-- What the answers of the services say in the paper's numbers: what is told, and the report.
use Rattle.std.specs.Prelude.{ℕ, Result, Ok, Err}
use Rattle.language.specs.State.{nothing}
use Rattle.language.specs.Numbers.{passed, refused, stopped}
use Rattle.language.specs.Answers.{CheckReport, check_report, RunReport, refusal}
use Rattle.language.specs.Writing.{WriteReport, write_report}
use Rattle.language.specs.Profile.{ProfileReport, profile_report}
use Rattle.language.specs.Pairs.{Place, front}
use Rattle.numbers.specs.Meanings.{refusal_meant, stop_meant}
use Rattle.numbers.specs.declared.Refusal.{Refusal}
use Rattle.numbers.specs.declared.Stop.{Stop}
use Rattle.layout.specs.Values as Values
use Rattle.layout.specs.declared.values.Value.{Value}
use Rattle.pairs.specs.Spots.{meant}
use Rattle.pairs.specs.declared.Spot.{Spot}
use Rattle.numbers.specs.declared.Located.{Located}
use Rattle.grumpy.specs.declared.answers.Costs.{Costs}
use Rattle.grumpy.specs.declared.answers.Ended.{Ended}

-- ---- the answers, whatever a place is

abbrev pub RefusedAt : Type 0 → Type 0
RefusedAt P = Located Refusal P

abbrev pub CheckedAt : Type 0 → Type 0
CheckedAt P = Result ℕ (RefusedAt P)

abbrev pub Written : Type 0
Written = Result ℕ (RefusedAt ℕ)

abbrev pub ProfiledAt : Type 0 → Type 0
ProfiledAt P = Result Costs (RefusedAt P)

abbrev pub RanAt : Type 0 → Type 0
RanAt P = Result (Ended P) (RefusedAt P)

-- ---- and what they say, where `z` is told of what has no place, and `m` of a place

abbrev pub check_told : {P Q : Type 0} → Q → (P → Q) → CheckedAt P → CheckReport Q
check_told z m (Ok t) = check_report passed z t
check_told z m (Err e) = check_report (refused (refusal_meant e.why)) (m e.place) 0

abbrev pub profile_told : {P Q : Type 0} → Q → (P → Q) → ProfiledAt P → ProfileReport Q
profile_told z m (Ok p) = profile_report passed z p.type_number p.count
profile_told z m (Err e) = profile_report (refused (refusal_meant e.why)) (m e.place) 0 0

-- of a program whose type has the number t, with the units used and the bytes printed
abbrev pub end_told : {P Q : Type 0} → Q → (P → Q) → ℕ → ℕ → ℕ → Result Value (Located Stop P) → RunReport Q
end_told z m t u n (Ok v) =
    record { told = passed; place = z; type = t; value = Values.meant v; units = u; printed = n }
end_told z m t u n (Err s) =
    record { told = stopped (stop_meant s.why); place = m s.place; type = t; value = nothing; units = u; printed = n }

abbrev pub run_told : {P Q : Type 0} → Q → (P → Q) → RanAt P → RunReport Q
run_told z m (Ok r) = end_told z m r.type_number r.ending.units r.ending.printed r.ending.end
run_told z m (Err e) = refusal (refusal_meant e.why) (m e.place)

-- ---- of one sheet

abbrev pub same : ℕ → ℕ
same i = i

abbrev pub checked_report : CheckedAt ℕ → CheckReport ℕ
checked_report r = check_told 0 same r

abbrev pub ran_report : RanAt ℕ → RunReport ℕ
ran_report r = run_told 0 same r

abbrev pub wrote_report : Written → WriteReport ℕ
wrote_report (Ok n) = write_report passed 0 n
wrote_report (Err e) = write_report (refused (refusal_meant e.why)) e.place 0

abbrev pub profiled_report : ProfiledAt ℕ → ProfileReport ℕ
profiled_report r = profile_told 0 same r

-- ---- of two

abbrev pub pair_checked_report : CheckedAt Spot → CheckReport Place
pair_checked_report r = check_told front meant r

abbrev pub pair_profiled_report : ProfiledAt Spot → ProfileReport Place
pair_profiled_report r = profile_told front meant r

abbrev pub pair_ran_report : RanAt Spot → RunReport Place
pair_ran_report r = run_told front meant r
