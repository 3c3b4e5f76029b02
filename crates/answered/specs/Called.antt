-- What came of a rate sheet with a call under it as the second sheet.
use Rattle.std.specs.Prelude.{Bool, true, false, cond, eqb, ℕ, Result, Ok, Err}
use Rattle.wording.specs.declared.ends.End.{End}
use Rattle.wording.specs.declared.ends.End.TheVariants.{Passed, Counted, Value, Refused, Stopped}
use Rattle.grumpy.specs.Reports.{CheckedAt, ProfiledAt, RanAt}
use Rattle.layout.specs.declared.values.Value as value
use Rattle.numbers.specs.declared.Stop as stop
use Rattle.numbers.specs.declared.Located.{Located}
use Rattle.numbers.specs.declared.Refusal.{Refusal}
use Rattle.pairs.specs.declared.Spot.{Spot}
use Rattle.wording.specs.declared.causes.Cause as cause
use Rattle.answered.specs.Refusals.{is_long}

abbrev pub sided : (called : Bool) → Refusal → (place : ℕ) → End
sided called r place =
    cond called (Refused (cause.TheVariants.Called r) 0) (Refused (cause.TheVariants.Refused r) place)

-- a sheet that is too long with its call is so by its call
abbrev pub refused_under : Refusal → Spot → End
refused_under r s = cond (is_long r) (sided true r s.at) (sided (eqb s.sheet 2) r s.at)

-- what a call gives has to be an int, whose number is 1 (S067)
abbrev pub passed_under : (type_number : ℕ) → End
passed_under k = cond (eqb k 1) (Passed k) (Refused (cause.TheVariants.NoWage k) 0)

abbrev pub checked_under : CheckedAt Spot → End
checked_under (Ok k) = passed_under k
checked_under (Err r) = refused_under r.why r.place

-- a place in the call counts as the end of the sheet, which has `own` bytes
abbrev pub own_place : (own : ℕ) → Spot → ℕ
own_place own s = cond (eqb s.sheet 2) own s.at

-- of a type with the number k, with the units used and the bytes printed
abbrev pub ended_under : (own k u n : ℕ) → Result value.Value (Located stop.Stop Spot) → End
ended_under own k u n (Ok v) = Value k v u n
ended_under own k u n (Err s) = Stopped (cause.TheVariants.Stopped s.why) (own_place own s.place) k u n

abbrev pub ran_under : (own : ℕ) → RanAt Spot → End
ran_under own (Ok r) = ended_under own r.type_number r.ending.units r.ending.printed r.ending.end
ran_under own (Err r) = refused_under r.why r.place

abbrev pub profiled_under : ProfiledAt Spot → End
profiled_under (Ok p) = Counted p.type_number p.count
profiled_under (Err r) = refused_under r.why r.place
