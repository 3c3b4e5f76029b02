-- The contract of `run`.
use Rattle.std.specs.Prelude.{List, ◌++◌, reverse, ◌≡◌, ℕ, ◌≤◌, length, drop, Result, Ok, Err}
use Rattle.language.specs.Sizes.{ALLOWANCE, WORK}
use Rattle.language.specs.Tokens.{Token}
use Rattle.language.specs.Trees.{Ty, Program}
use Rattle.language.specs.Types.{HasType}
use Rattle.language.specs.State as M
use Rattle.language.specs.State.{value, stop}
use Rattle.language.specs.Meaning.{run}
use Rattle.layout.specs.Table.{zeros}
use Rattle.layout.specs.Decode.{Holds}
use Rattle.layout.specs.Resolved.{Resolved}
use Rattle.layout.specs.declared.Held.{Held}
use Rattle.layout.specs.Values.{meant}
use Rattle.layout.specs.declared.values.Value.{Value}
use Rattle.numbers.specs.Meanings.{stop_meant}
use Rattle.numbers.specs.declared.Stop.{Stop}
use Rattle.numbers.specs.declared.Located.{Located}
use Rattle.machine.specs.declared.state.Tally.{Tally}
use Rattle.runner.specs.Standing.{Ending, ending_of}
use Rattle.runner.specs.declared.Spent.{Spent}
use Rattle.runner.specs.declared.Done.{Done}
use Rattle.runner.specs.declared.state.Next.{Next}

abbrev pub spent : Tally → Spent
spent t = record { left = t.units; printed = t.printed }

abbrev pub result_of : Ending → Next → Result Value (Located Stop ℕ)
result_of Ending.complete n = Ok n.value
result_of (Ending.stopped y i) n = Err (record { why = y; place = i })

abbrev pub reported : Next → Done
reported n = record { result = result_of (ending_of n.mode) n; spent = spent n.tally }

-- What is asked: the table holds a program that has a type, and its names and calls are resolved.
pub record Loaded (table w : List ℕ) (P : Held) (allowance : ℕ) : Type 0 where
  pub ts : List Token
  pub program : Program
  pub type : Ty
  pub holds : Holds ts table P program
  pub typed : HasType program type
  pub resolved : Resolved table program
  pub long : WORK ≤ length w
  pub allowed : allowance ≤ ALLOWANCE

-- the outcome that an answer is, with a state
abbrev pub outcome_of : Result Value (Located Stop ℕ) → M.State → M.Outcome
outcome_of (Ok v) σ = value (meant v) σ
outcome_of (Err h) σ = stop (stop_meant h.why) h.place σ

-- the answer r and the output o' are those of the outcome m
pub record EndsAs (m : M.Outcome) (o o' : List ℕ) (r : Done) : Type 0 where
  pub state : M.State
  pub outcome : m ≡ outcome_of r.result state
  pub left : r.spent.left ≡ state.units
  pub printed : r.spent.printed ≡ length state.printed
  pub output : o' ≡ reverse state.printed ++ drop (length (reverse state.printed)) o

-- What is promised: the answer and the output are those of the meaning, and work memory is cleared.
pub record RunsTo (table w o w' o' : List ℕ) (P : Held) (allowance : ℕ) (r : Done) : Type 0 where
  pub answer : (ts : List Token) (p : Program) (t : Ty) → Holds ts table P p → HasType p t
      → Resolved table p → EndsAs (run p allowance (length o)) o o' r
  pub cleared : w' ≡ zeros w 0 WORK
