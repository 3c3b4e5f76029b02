-- What the three services of a shift promise, whatever they are given.
use Rattle.std.specs.Prelude.{Ok, Err}
use Rattle.std.specs.Prelude.{List, ◌≡◌, ℕ, length}
use Rattle.std.proofs.Math.Option.{none, some}
use Rattle.language.specs.Sizes.{TABLE, WORK}
use Rattle.language.specs.Tokens.{Vocabulary}
use Rattle.language.specs.Edition as Edition
use Rattle.language.specs.Shift.{Admits}
use Rattle.numbers.specs.declared.Refusal.{Refusal}
use Rattle.tally.specs.Sums.{no_sums}
use Rattle.tally.specs.declared.sums.Sums.{Sums}
use Rattle.shift.specs.declared.State.{State}
use Rattle.shift.specs.declared.Denied.{Denied}
use Rattle.shift.specs.Meanings.{Admission}
use Rattle.shift.specs.declared.Answer.{Answer}
use Rattle.shift.specs.Meanings.{Ending}
use Rattle.shift.specs.Meanings.{admission_meant, lent, left_by, new_state, closed_sums}
use Rattle.shift.specs.Taking.{EndedLine, Takes, printed_over}

-- R14.7: a shift begins, or it is refused
pub record Begin (edition : ℕ) (book table work : List ℕ) (allowance : ℕ) (r : Answer) (table' work' : List ℕ) : Type 0
  where
    pub admits : (output : ℕ) → Admits edition book (lent table work output allowance) (admission_meant r.told)
    pub state : r.state ≡ new_state allowance
    pub table_left : table' ≡ left_by (admission_meant r.told).told TABLE table
    pub work_left : work' ≡ left_by (admission_meant r.told).told WORK work

-- a piece: the book is asked again; where it is refused, nothing is printed and the state is as it was
pub data Feeds (edition : ℕ) (book piece out : List ℕ) (state : State) (out' : List ℕ)
    : Admission → State → Type 0 where
  feeds : {lines : List EndedLine} {state' : State} → Takes edition book (length out) state piece lines state'
      → out' ≡ printed_over out lines → Feeds edition book piece out state out' (Ok tt) state'
  turned : {d : Denied} → out' ≡ out → Feeds edition book piece out state out' (Err d) state

pub record Feed (edition : ℕ) (book piece table work out : List ℕ) (state : State) (r : Answer)
    (table' work' out' : List ℕ) : Type 0 where
  pub admits : Admits edition book (lent table work (length out) state.allowance) (admission_meant r.told)
  pub tells : Feeds edition book piece out state out' r.told r.state
  pub table_left : table' ≡ left_by (admission_meant r.told).told TABLE table
  pub work_left : work' ≡ left_by (admission_meant r.told).told WORK work

-- R14.6: of any state its sums, with a bad line more where one has begun and not ended, and whether there was a line
-- too many
pub data Finish (edition : ℕ) (state : State) : Ending → Sums → Type 0 where
  finished : {v : Vocabulary} → Edition.edition edition ≡ some v
      → Finish edition state (Ok state.over) (closed_sums state)
  no_edition : Edition.edition edition ≡ none → Finish edition state (Err Refusal.NoEdition) no_sums
