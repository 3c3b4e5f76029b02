-- What the parts of a feed promise: what is lent to a book that was admitted, and what a line comes to.
use Rattle.std.specs.Prelude.{List, ◌++◌, ◌≡◌, ℕ, ◌≤◌, length, drop, Result, Ok, Err}
use Rattle.language.specs.Sizes.{TABLE, WORK, ALLOWANCE}
use Rattle.language.specs.Answers.{Lent, cleared}
use Rattle.language.specs.Shift.{Job, Admits}
use Rattle.language.specs.Shift as Shift
use Rattle.layout.specs.Table.{zeros}
use Rattle.layout.specs.declared.Held.{Held}
use Rattle.layout.specs.declared.values.Value.{Value}
use Rattle.numbers.specs.declared.Stop.{Stop}
use Rattle.numbers.specs.declared.Located.{Located}
use Rattle.grumpy.specs.Calls.{Prepared}
use Rattle.grumpy.specs.declared.answers.Ending.{Ending}
use Rattle.tally.specs.Stands.{outcome_meant}
use Rattle.tally.specs.Sums.{Small}
use Rattle.tally.specs.declared.lines.Part.{Part}
use Rattle.tally.specs.declared.sums.Outcome.{Outcome}
use Rattle.shift.specs.declared.State.{State}
use Rattle.shift.specs.Meanings.{granted, lent}
use Rattle.shift.specs.Taking.{needed, EndedLine, Ends, Takes, printed_over}

-- a book that was admitted, and memory whose required words are zero
pub record Lends (edition : ℕ) (book table work out : List ℕ) (allowance : ℕ) : Type 0 where
  pub admits : Admits edition book (lent table work (length out) allowance) granted
  pub table_clear : cleared TABLE table ≡ table
  pub work_clear : cleared WORK work ≡ work

-- The table was prepared for a book, and there is work memory for each line, whose required words are zero.
pub record Ready (edition : ℕ) (book : List ℕ) (P : Held) (table work : List ℕ) (allowance : ℕ) : Type 0 where
  pub prepared : Prepared edition book table P
  pub long : WORK ≤ length work
  pub work_clear : cleared WORK work ≡ work
  pub fair : allowance ≤ ALLOWANCE

-- for some book; what is promised then is promised for whichever it is
pub record ReadyForSome (P : Held) (table work : List ℕ) (allowance : ℕ) : Type 0 where
  pub edition : ℕ
  pub book : List ℕ
  pub ready : Ready edition book P table work allowance

-- what the end of a run is counted as; a book that was admitted has an int or a stop
abbrev pub paid_as : Value → Outcome
paid_as (Value.Int z) = Outcome.Paid z
paid_as (Value.Float x) = Outcome.Bad
paid_as (Value.Flag b) = Outcome.Bad
paid_as Value.Nothing = Outcome.Bad
paid_as (Value.Cell n) = Outcome.Bad

abbrev pub end_as : Result Value (Located Stop ℕ) → Outcome
end_as (Ok v) = paid_as v
end_as (Err s) = Outcome.Stopped s.why

abbrev pub ended_as : Ending ℕ → Outcome
ended_as e = end_as e.end

-- the table is prepared as before, work memory is as before, and the output has the bytes printed at its front
pub record Leaves (edition : ℕ) (book : List ℕ) (P : Held) (table work out printed table' work' out' : List ℕ) : Type 0
  where
    pub prepared : Prepared edition book table' P
    pub table_rest : zeros table' 0 TABLE ≡ zeros table 0 TABLE
    pub work_same : work' ≡ work
    pub output : out' ≡ printed ++ drop (length printed) out

-- a job was run
pub record Ran (edition : ℕ) (book : List ℕ) (l : Lent) (j : Job) (P : Held) (table work out : List ℕ) (r : Outcome)
    (table' work' out' : List ℕ) : Type 0 where
  pub printed : List ℕ
  pub runs : Shift.Runs edition book l j (outcome_meant r) printed
  pub small : Small r
  pub leaves : Leaves edition book P table work out printed table' work' out'

abbrev pub RanForAny : Held → Job → List ℕ → List ℕ → List ℕ → ℕ → Outcome → List ℕ → List ℕ → List ℕ → Type 0
RanForAny P j table work out allowance r table' work' out' =
    (edition : ℕ) (book : List ℕ) → Ready edition book P table work allowance
    → Ran edition book (needed (length out) allowance) j P table work out r table' work' out'

-- a line has ended, of which so much was kept
pub record Came (edition : ℕ) (book : List ℕ) (l : Lent) (part : Part) (P : Held) (table work out : List ℕ)
    (r : Outcome) (table' work' out' : List ℕ) : Type 0 where
  pub printed : List ℕ
  pub ends : Ends edition book l part record { outcome = r; printed = printed }
  pub small : Small r
  pub leaves : Leaves edition book P table work out printed table' work' out'

abbrev pub CameForAny : Held → Part → List ℕ → List ℕ → List ℕ → ℕ → Outcome → List ℕ → List ℕ → List ℕ → Type 0
CameForAny P part table work out allowance r table' work' out' =
    (edition : ℕ) (book : List ℕ) → Ready edition book P table work allowance
    → Came edition book (needed (length out) allowance) part P table work out r table' work' out'

-- so many bytes more, in a prepared table
pub record GoesOn (edition : ℕ) (book : List ℕ) (P : Held) (bytes table work out : List ℕ) (state r : State)
    (table' work' out' : List ℕ) : Type 0 where
  pub lines : List EndedLine
  pub takes : Takes edition book (length out) state bytes lines r
  pub output : out' ≡ printed_over out lines
  pub prepared : Prepared edition book table' P
  pub table_rest : zeros table' 0 TABLE ≡ zeros table 0 TABLE
  pub work_same : work' ≡ work

abbrev pub GoesForAny : Held → List ℕ → List ℕ → List ℕ → List ℕ → State → State → List ℕ → List ℕ → List ℕ → Type 0
GoesForAny P bytes table work out state r table' work' out' =
    (edition : ℕ) (book : List ℕ) → Ready edition book P table work state.allowance
    → GoesOn edition book P bytes table work out state r table' work' out'

-- a piece
pub record Goes (edition : ℕ) (book bytes table work out : List ℕ) (state r : State)
    (table' work' out' : List ℕ) : Type 0 where
  pub lines : List EndedLine
  pub takes : Takes edition book (length out) state bytes lines r
  pub output : out' ≡ printed_over out lines
  pub table_same : table' ≡ table
  pub work_same : work' ≡ work
