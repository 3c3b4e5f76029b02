-- What a state stands for: the input that made it of a new one. Contracts do not ask for it; theorems say what is told
-- where there is such an input.
use Rattle.std.specs.Prelude.{Bool, List, ℕ}
use Rattle.language.specs.Shift as Shift
use Rattle.tally.specs.Stands.{report_in}
use Rattle.tally.specs.declared.sums.Sums.{Sums}
use Rattle.shift.specs.declared.State.{State}
use Rattle.shift.specs.Meanings.{new_state, over_told}
use Rattle.shift.specs.Taking.{needed, EndedLine, Takes, printed_over}

-- Book, edition, length of the output and the state's allowance are all that it depends on: what lay in the output, and
-- how much memory was lent beyond what is asked for, does not occur.
pub record After (edition : ℕ) (book : List ℕ) (room : ℕ) (input : List ℕ) (state : State) : Type 0 where
  pub lines : List EndedLine
  pub taken : Takes edition book room (new_state state.allowance) input lines state

-- R14.6, R14.8: it is the written report of this input, whatever lay in the lent output; and there lies afterwards what
-- the lines printed
pub record Reports (edition : ℕ) (book : List ℕ) (room allowance : ℕ) (input : List ℕ) (over : Bool) (sums : Sums)
    : Type 0 where
  pub lines : List EndedLine
  pub written : (output : List ℕ)
      → Shift.Shift edition book (needed room allowance) input output (over_told over) (report_in sums)
      (printed_over output lines)
