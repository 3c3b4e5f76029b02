-- What came of a whole sheet, from what the box answered.
use Rattle.std.specs.Prelude.{ℕ, Result, Ok, Err}
use Rattle.wording.specs.declared.ends.End.{End}
use Rattle.wording.specs.declared.ends.End.TheVariants.{Passed, Counted, Value, Refused, Stopped}
use Rattle.grumpy.specs.Reports.{CheckedAt, ProfiledAt, RanAt}
use Rattle.layout.specs.declared.values.Value as value
use Rattle.numbers.specs.declared.Stop as stop
use Rattle.numbers.specs.declared.Located.{Located}
use Rattle.wording.specs.declared.causes.Cause as cause

abbrev pub checked_end : CheckedAt ℕ → End
checked_end (Ok k) = Passed k
checked_end (Err r) = Refused (cause.TheVariants.Refused r.why) r.place

-- of a type with the number k, with the units used and the bytes printed
abbrev pub ended_end : (k u n : ℕ) → Result value.Value (Located stop.Stop ℕ) → End
ended_end k u n (Ok v) = Value k v u n
ended_end k u n (Err s) = Stopped (cause.TheVariants.Stopped s.why) s.place k u n

abbrev pub ran_end : RanAt ℕ → End
ran_end (Ok r) = ended_end r.type_number r.ending.units r.ending.printed r.ending.end
ran_end (Err r) = Refused (cause.TheVariants.Refused r.why) r.place

abbrev pub profiled_end : ProfiledAt ℕ → End
profiled_end (Ok p) = Counted p.type_number p.count
profiled_end (Err r) = Refused (cause.TheVariants.Refused r.why) r.place
