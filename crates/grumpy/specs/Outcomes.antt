-- What comes of a sheet that was examined, run or refused: vocabulary for the contracts inside this crate.
use Rattle.std.specs.Prelude.{List, ◌++◌, ◌≡◌, ℕ, ◌≤◌, length, drop, Result, Ok, Err, MatchResult}
use Rattle.std.proofs.Math.Option.{some}
use Rattle.language.specs.Sizes.{TABLE, WORK, ALLOWANCE}
use Rattle.language.specs.Tokens.{Token}
use Rattle.language.specs.Trees.{Ty, Program}
use Rattle.language.specs.Types.{HasType}
use Rattle.language.specs.State.{Outcome, nothing}
use Rattle.language.specs.Meaning.{run}
use Rattle.language.specs.Numbers.{passed, stopped}
use Rattle.language.specs.Answers as Answers
use Rattle.language.specs.Answers.{Origin, Proper, nowhere, at, ending, Lent, Enough}
use Rattle.numbers.specs.Meanings.{stop_meant}
use Rattle.numbers.specs.declared.Stop.{Stop}
use Rattle.layout.specs.Table.{zeros}
use Rattle.layout.specs.Values.{meant}
use Rattle.layout.specs.declared.values.Value.{Value}
use Rattle.layout.specs.Resolved.{Resolved}
use Rattle.layout.specs.Decode.{Holds}
use Rattle.layout.specs.declared.Held.{Held}
use Rattle.sheets.specs.Sources.{origin_of, place_of}
use Rattle.sheets.specs.Sheets.{OfSource}
use Rattle.sheets.specs.declared.Source.{Source}
use Rattle.sheets.specs.Sheets.{Seen}
use Rattle.numbers.specs.declared.Located.{Located}
use Rattle.grumpy.specs.Reports.{RanAt, ran_report}
use Rattle.grumpy.specs.declared.answers.Ending.{Ending}

-- ---- a program that is run

-- the end of a program that the code's is, with the units used and the bytes printed; a stop is told at a token
abbrev pub end_meant : Result Value (Located Stop ℕ) → ℕ → List ℕ → Answers.Ending
end_meant (Ok v) u bs = record { told = passed; spot = nowhere; value = meant v; units = u; printed = bs }
end_meant (Err s) u bs =
    record { told = stopped (stop_meant s.why); spot = at s.place; value = nothing; units = u; printed = bs }

abbrev pub ending_meant : Ending ℕ → List ℕ → Answers.Ending
ending_meant e bs = end_meant e.end e.units bs

-- the outcome m is told so, and so is the output
pub record Told (m : Outcome) (allowance : ℕ) (out out' : List ℕ) (r : Ending ℕ) : Type 0 where
  pub printed : List ℕ
  pub ends : ending allowance m ≡ some (ending_meant r printed)
  pub counted : r.printed ≡ length printed
  pub output : out' ≡ printed ++ drop (length printed) out

pub record Executed (table work out work' out' : List ℕ) (P : Held) (allowance : ℕ) (r : Ending ℕ) : Type 0 where
  pub told : (ts : List Token) (p : Program) (t : Ty) → Holds ts table P p → HasType p t → Resolved table p
      → Told (run p allowance (length out)) allowance out out' r
  pub cleared : work' ≡ zeros work 0 WORK

-- an end whose stop is told at another place
abbrev pub end_at : {P Q : Type 0} → (P → Q) → Result Value (Located Stop P) → Result Value (Located Stop Q)
end_at m (Ok v) = Ok v
end_at m (Err s) = Err (record { why = s.why; place = m s.place })

abbrev pub ending_at : {P Q : Type 0} → (P → Q) → Ending P → Ending Q
ending_at m e = record { end = end_at m e.end; units = e.units; printed = e.printed }

-- where that place is found by what is promised of it
abbrev pub EndsAt : {P Q : Type 0} → (P → Q → Type 0) → Ending P → Ending Q → Type 0
EndsAt {P} {Q} M e r =
    (r.units ≡ e.units) × (r.printed ≡ e.printed)
    × MatchResult e.end (λ v. r.end ≡ Ok v)
    (λ s. (x : Q) × M s.place x × (r.end ≡ Err (record { why = s.why; place = x })))

-- the answer for a program whose type has the number t, from the words of a table that stands for so many tokens of a
-- source
abbrev pub ran_of : Source → List ℕ → ℕ → ℕ → Ending ℕ → RanAt ℕ
ran_of source w count t e =
    Ok (record { type_number = t; ending = ending_at (place_of source w count) e })

-- ---- a sheet that was examined

-- the table holds a program that is a reading and has a type: it can be resolved, and run then
pub record Ready (table work : List ℕ) (P : Held) (allowance : ℕ) : Type 0 where
  pub tokens : List Token
  pub program : Program
  pub type : Ty
  pub holds : Holds tokens table P program
  pub proper : Proper tokens program type
  pub long : WORK ≤ length work
  pub allowed : allowance ≤ ALLOWANCE

abbrev pub Runnable : List ℕ → List ℕ → ℕ → Seen → Type 0
Runnable table work allowance (Ok p) = Ready table work p.program allowance
Runnable table work allowance (Err e) = WORK ≤ length work

-- the report and the output are those of the written run of an origin
pub record Reported (o : Origin ℕ) (l : Lent) (out out' : List ℕ) (r : RanAt ℕ) : Type 0 where
  pub printed : List ℕ
  pub ran : Answers.Ran o l (ran_report r) printed
  pub output : out' ≡ printed ++ drop (length printed) out

-- with memory and allowance in order, in whatever edition the source was examined; of the table only required words
-- may have changed
pub record Answered (source : Source) (table table' work out work' out' : List ℕ) (allowance : ℕ)
    (s : Seen) (r : RanAt ℕ) : Type 0 where
  pub told : (edition : ℕ) (l : Lent) → OfSource (origin_of source edition) table s → Enough l
      → l.output ≡ length out → l.allowance ≡ allowance → allowance ≤ ALLOWANCE
      → Reported (origin_of source edition) l out out' r
  pub rest : zeros table' 0 TABLE ≡ zeros table 0 TABLE
  pub cleared : work' ≡ zeros work 0 WORK
