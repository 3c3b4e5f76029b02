-- What the code's answers stand for in the written report of a shift, and what is left in lent memory.
use Rattle.std.specs.Prelude.{Result, Ok, Err}
use Rattle.std.specs.Prelude.{Bool, false, cond, List, ℕ, length}
use Rattle.std.proofs.Math.Option.{Option, none, some}
use Rattle.language.specs.Answers.{keeps, cleared, Lent}
use Rattle.language.specs.Pairs.{front}
use Rattle.language.specs.Shift.{ShiftRefusal, sheet, no_book, many_lines, turned_away}
use Rattle.language.specs.Shift as Shift
use Rattle.numbers.specs.Meanings.{refusal_meant}
use Rattle.pairs.specs.Spots.{meant}
use Rattle.tally.specs.Parts.{no_part, is_begun}
use Rattle.tally.specs.Sums.{no_sums, with_bad}
use Rattle.tally.specs.declared.sums.Sums.{Sums}
use Rattle.shift.specs.declared.State.{State}
use Rattle.shift.specs.declared.Why.{Why}
use Rattle.shift.specs.declared.Denied.{Denied}
use Rattle.numbers.specs.declared.Refusal.{Refusal}

abbrev pub why_meant : Why → ShiftRefusal
why_meant (Why.Sheet r) = sheet (refusal_meant r)
why_meant Why.NoBook = no_book
why_meant Why.ManyLines = many_lines

-- what is told of a book before any line; and in the end, whether there was a line too many
abbrev pub Admission : Type 0
Admission = Result (Unit {0}) Denied

abbrev pub Ending : Type 0
Ending = Result Bool Refusal

abbrev pub granted : Shift.Admission
granted = record { told = none; place = front }

abbrev pub admission_meant : Admission → Shift.Admission
admission_meant (Ok u) = granted
admission_meant (Err d) = turned_away (why_meant d.why) (meant d.spot)

-- what is lent, by its lengths
abbrev pub lent : List ℕ → List ℕ → ℕ → ℕ → Lent
lent table work output allowance =
    record { table = length table; work = length work; output = output; allowance = allowance }

-- S100: after 40 all is as before; else the required words are zero
abbrev pub keeps_all : Option ShiftRefusal → Bool
keeps_all none = false
keeps_all (some (sheet r)) = keeps r
keeps_all (some no_book) = false
keeps_all (some many_lines) = false

unfoldable pub left_by : Option ShiftRefusal → ℕ → List ℕ → List ℕ
left_by told n words = cond (keeps_all told) words (cleared n words)

-- a shift before its first line
abbrev pub new_state : ℕ → State
new_state allowance = record { allowance = allowance; part = no_part; sums = no_sums; over = false }

-- the sums in the end: a line that has begun is a bad one
unfoldable pub closed_sums : State → Sums
closed_sums s = cond s.over s.sums (cond (is_begun s.part) (with_bad s.sums) s.sums)

abbrev pub over_told : Bool → Option ShiftRefusal
over_told over = cond over (some many_lines) none
