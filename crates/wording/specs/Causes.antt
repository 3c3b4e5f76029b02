-- Why a sheet does not pay: the number, and whether it has a place in the sheet.
use Rattle.std.specs.Prelude.{Bool, true, false, ℕ}
use Rattle.language.specs.Numbers as Numbers
use Rattle.language.specs.Shift.{shift_number, no_book, many_lines}
use Rattle.numbers.specs.Meanings.{refusal_meant, stop_meant}
use Rattle.numbers.specs.declared.Refusal.{Refusal}
use Rattle.wording.specs.declared.causes.Cause.{Cause}
use Rattle.wording.specs.declared.causes.Cause.TheVariants.{Refused, Called, Stopped, Complete, NoWage, NoBook}
use Rattle.wording.specs.declared.causes.Cause.TheVariants.{ManyLines}

-- 0 where the box has none
abbrev pub cause_number : Cause → ℕ
cause_number (Refused r) = Numbers.refusal_number (refusal_meant r)
cause_number (Called r) = Numbers.refusal_number (refusal_meant r)
cause_number (Stopped s) = Numbers.stop_number (stop_meant s)
cause_number Complete = Numbers.refusal_number (refusal_meant Refusal.NoReading)
cause_number (NoWage k) = 0
cause_number NoBook = shift_number no_book
cause_number ManyLines = shift_number many_lines

abbrev pub refusal_placed : Refusal → Bool
refusal_placed Refusal.ShortMemory = false
refusal_placed Refusal.LargeAllowance = false
refusal_placed Refusal.NoEdition = false
refusal_placed Refusal.LongSource = false
refusal_placed (Refusal.Text f) = true
refusal_placed Refusal.NoReading = true
refusal_placed (Refusal.Types r) = true
refusal_placed Refusal.LongText = false
refusal_placed Refusal.NotHexadecimal = true
refusal_placed Refusal.WrongCount = true
refusal_placed Refusal.NotOneToken = true
refusal_placed Refusal.EndlessNode = true
refusal_placed Refusal.ManyUnits = false

-- a call that was set under the sheet is no place for who wrote the sheet
abbrev pub cause_placed : Cause → Bool
cause_placed (Refused r) = refusal_placed r
cause_placed (Called r) = false
cause_placed (Stopped s) = true
cause_placed Complete = false
cause_placed (NoWage k) = false
cause_placed NoBook = false
cause_placed ManyLines = false
