-- Which refusals of a sheet are told otherwise where a call stands under it: the whole is too long; it is no program.
use Rattle.std.specs.Prelude.{Bool, true, false}
use Rattle.numbers.specs.declared.Refusal.{Refusal}

abbrev pub is_long : Refusal → Bool
is_long Refusal.LongSource = true
is_long _ = false

abbrev pub is_unread : Refusal → Bool
is_unread Refusal.NoReading = true
is_unread _ = false
