-- Answers that say the same are the same: each can be had back from its report.
use mathlib.Core.Path.{◌≡◌, refl, sym, ap, ◌∙◌}
use Prim.Native.Nat.{ℕ}
use Rattle.std.proofs.Common.{Result, Ok, Err}
use Rattle.language.specs.Numbers as Numbers
use Rattle.language.specs.Numbers.{Told, passed, refused, stopped}
use Rattle.language.specs.Answers.{CheckReport, RunReport}
use Rattle.language.specs.Pairs.{Place, front}
use Rattle.language.specs.Profile.{ProfileReport}
use Rattle.language.specs.Writing.{WriteReport}
use Rattle.layout.specs.declared.values.Value.{Value}
use Rattle.numbers.specs.Meanings.{refusal_meant}
use Rattle.numbers.proofs.Apart.{refusal_of, refusal_back, stop_of, stop_back}
use Rattle.numbers.specs.declared.Stop.{Stop}
use Rattle.pairs.specs.Spots.{meant}
use Rattle.pairs.specs.declared.Spot.{Spot}
use Rattle.runner.proofs.Unique.{value_of, value_back}
use Rattle.numbers.specs.declared.Located.{Located}
use Rattle.grumpy.specs.Reports.{RefusedAt, CheckedAt, Written, ProfiledAt, RanAt, check_told, profile_told, end_told, run_told, same}
use Rattle.grumpy.specs.Reports.{checked_report, ran_report, wrote_report, profiled_report, pair_checked_report, pair_ran_report, pair_profiled_report}

-- where a place can be had back from what it stands for
module _ {P Q : Type 0} (z : Q) (m : P → Q) (back : Q → P) (undo : (x : P) → back (m x) ≡ x) where
  abbrev refused_by : Numbers.Refusal → Q → RefusedAt P
  refused_by y x = record { why = refusal_of y; place = back x }

  refused_back : (e : RefusedAt P) → refused_by (refusal_meant e.why) (m e.place) ≡ e
  refused_back e = λ i. record { why = refusal_back e.why i; place = undo e.place i }

  -- check tells no stop, nor does profile
  abbrev checked_by : Told → CheckReport Q → CheckedAt P
  checked_by passed r = Ok r.type
  checked_by (refused y) r = Err (refused_by y r.place)
  checked_by (stopped w) r = Ok 0

  checked_back : (r : CheckedAt P) → checked_by (check_told z m r).told (check_told z m r) ≡ r
  checked_back (Ok t) = refl
  checked_back (Err e) = λ i. Err (refused_back e i)

  one_checked : (r q : CheckedAt P) → check_told z m r ≡ check_told z m q → r ≡ q
  one_checked r q e = sym (checked_back r) ∙ ap (λ (x : CheckReport Q). checked_by x.told x) e ∙ checked_back q

  abbrev profiled_by : Told → ProfileReport Q → ProfiledAt P
  profiled_by passed r = Ok (record { type_number = r.type; count = r.count })
  profiled_by (refused y) r = Err (refused_by y r.place)
  profiled_by (stopped w) r = Ok (record { type_number = 0; count = 0 })

  profiled_back : (r : ProfiledAt P) → profiled_by (profile_told z m r).told (profile_told z m r) ≡ r
  profiled_back (Ok p) = refl
  profiled_back (Err e) = λ i. Err (refused_back e i)

  one_profiled : (r q : ProfiledAt P) → profile_told z m r ≡ profile_told z m q → r ≡ q
  one_profiled r q e = sym (profiled_back r) ∙ ap (λ (x : ProfileReport Q). profiled_by x.told x) e ∙ profiled_back q

  abbrev ended_by : Result Value (Located Stop P) → RunReport Q → RanAt P
  ended_by x r = Ok (record { type_number = r.type; ending = record { end = x; units = r.units; printed = r.printed } })

  abbrev ran_by : Told → RunReport Q → RanAt P
  ran_by passed r = ended_by (Ok (value_of r.value)) r
  ran_by (refused y) r = Err (refused_by y r.place)
  ran_by (stopped w) r = ended_by (Err (record { why = stop_of w; place = back r.place })) r

  ended_back : (t u n : ℕ) (x : Result Value (Located Stop P)) → ran_by (end_told z m t u n x).told (end_told z m t u n x)
      ≡ Ok (record { type_number = t; ending = record { end = x; units = u; printed = n } })
  ended_back t u n (Ok v) = λ i. Ok (record { type_number = t; ending = record { end = Ok (value_back v i); units = u; printed = n } })
  ended_back t u n (Err s) = λ i.
      Ok (record {
        type_number = t;
        ending = record { end = Err (record { why = stop_back s.why i; place = undo s.place i }); units = u; printed = n };
      })

  ran_back : (r : RanAt P) → ran_by (run_told z m r).told (run_told z m r) ≡ r
  ran_back (Ok x) = ended_back x.type_number x.ending.units x.ending.printed x.ending.end
  ran_back (Err e) = λ i. Err (refused_back e i)

  one_ran : (r q : RanAt P) → run_told z m r ≡ run_told z m q → r ≡ q
  one_ran r q e = sym (ran_back r) ∙ ap (λ (x : RunReport Q). ran_by x.told x) e ∙ ran_back q

-- ---- of one sheet

pub same_checked : (r q : CheckedAt ℕ) → checked_report r ≡ checked_report q → r ≡ q
same_checked = one_checked 0 same same (λ x. refl)

pub same_profiled : (r q : ProfiledAt ℕ) → profiled_report r ≡ profiled_report q → r ≡ q
same_profiled = one_profiled 0 same same (λ x. refl)

pub same_ran : (r q : RanAt ℕ) → ran_report r ≡ ran_report q → r ≡ q
same_ran = one_ran 0 same same (λ x. refl)

abbrev wrote_by : Told → WriteReport ℕ → Written
wrote_by passed r = Ok r.written
wrote_by (refused y) r = Err (record { why = refusal_of y; place = r.place })
wrote_by (stopped w) r = Ok 0

wrote_back : (r : Written) → wrote_by (wrote_report r).told (wrote_report r) ≡ r
wrote_back (Ok n) = refl
wrote_back (Err e) = λ i. Err (record { why = refusal_back e.why i; place = e.place })

pub same_wrote : (r q : Written) → wrote_report r ≡ wrote_report q → r ≡ q
same_wrote r q e = sym (wrote_back r) ∙ ap (λ (x : WriteReport ℕ). wrote_by x.told x) e ∙ wrote_back q

-- ---- of two

abbrev spot_of : Place → Spot
spot_of x = record { sheet = x.sheet; at = x.at; begin = x.begins; end = x.ends }

pub same_pair_checked : (r q : CheckedAt Spot) → pair_checked_report r ≡ pair_checked_report q → r ≡ q
same_pair_checked = one_checked front meant spot_of (λ x. refl)

pub same_pair_profiled : (r q : ProfiledAt Spot) → pair_profiled_report r ≡ pair_profiled_report q → r ≡ q
same_pair_profiled = one_profiled front meant spot_of (λ x. refl)

pub same_pair_ran : (r q : RanAt Spot) → pair_ran_report r ≡ pair_ran_report q → r ≡ q
same_pair_ran = one_ran front meant spot_of (λ x. refl)
