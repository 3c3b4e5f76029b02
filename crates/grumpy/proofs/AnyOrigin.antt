-- The three demands on the box, and what head office asks (Req 11), once for every lawful origin of tokens: theorems about whatever
-- meets the contracts of check and run over it. `Demands`, `HeadOffice`, `PairDemands` and `StoredDemands` say them of the services.
use mathlib.Core.List.{List, ◌++◌}
use mathlib.Core.Logic.{◌↔◌, ◌⊎◌, inl}
use mathlib.Core.Option.{Option, none, some}
use mathlib.Core.Path.{◌≡◌, refl, ap, subst, ◌∙◌}
use Prim.Native.Nat.{ℕ, ◌≤◌, ◌<◌}
use lib.ListN.{length, drop}
use Rattle.language.specs.Sizes.{TABLE, WORK, ALLOWANCE}
use Rattle.language.specs.Tokens.{Token}
use Rattle.language.specs.Trees.{Ty, Program}
use Rattle.language.specs.Grammar.{Reading}
use Rattle.language.specs.Starts.{FirstWrong}
use Rattle.language.specs.Types.{HasType}
use Rattle.language.specs.Faults.{Reason, HasFault}
use Rattle.language.specs.State.{Stop, State, Outcome, value, stop, stuck}
use Rattle.language.specs.Meaning.{run, type_number}
use Rattle.language.specs.Numbers.{Refusal, short_memory, large_allowance, no_reading, types, Told, passed, refused, stopped, number}
use Rattle.language.specs.Answers.{Origin, place_in, unread, faulty, Passes, Refused, by_origin, by_tokens, left, Ending, ending}
use Rattle.language.specs.Answers.{CheckReport, Checked, check_short, check_refused, check_passed, Check}
use Rattle.language.specs.Answers.{Lent, Enough, RunReport, after_run, Ran, run_short, run_large, run_refused, run_ended, Run}
use Rattle.language.proofs.Answers.Origins.{Lawful}
use Rattle.language.proofs.Answers.OneAnswer.{one_ran}
use Rattle.language.proofs.Answers.Endings.{IsRun, some_ending}
use Rattle.language.proofs.Answers.Demand1 as Demand1
use Rattle.language.proofs.Answers.Demand1.{check_never_stops}
use Rattle.language.proofs.Answers.Demand3.{IsProgram, NoProgram, check_type_exactly, check_none_exactly, run_type_exactly, run_none_exactly}
use Rattle.language.proofs.Answers.HeadOffice as HeadOffice
use Rattle.language.proofs.Answers.HeadOffice.{Sound}

-- ---- demand 1

-- what check and run are lent
abbrev pub check_lent : List ℕ → Lent
check_lent table = record { table = length table; work = WORK; output = 0; allowance = 0 }

abbrev pub run_lent : List ℕ → List ℕ → List ℕ → ℕ → Lent
run_lent table work output allowance =
    record { table = length table; work = length work; output = length output; allowance = allowance }

-- What is told is a row of the table of numbers, at the place that the row sets, and memory is left as it says; `Row` is that table
-- for the origin that is meant. Of check:
pub record CheckDemand1 {P : Type 0} (Row : Lent → Told → P → Type 0) (table : List ℕ) (report : CheckReport P) (table' : List ℕ) : Type 0 where
  pub listed : Row (check_lent table) report.told report.place
  pub no_stop : (w : Stop) → report.told ≡ stopped w → ⊥
  pub table_left : table' ≡ left report.told TABLE table

-- of run; and where nothing is run, nothing is printed and the output is as it was
pub record RunDemand1 {P : Type 0} (Row : Lent → Told → P → Type 0) (table work output : List ℕ) (allowance : ℕ) (report : RunReport P)
    (table' work' output' : List ℕ) : Type 0 where
  pub listed : Row (run_lent table work output allowance) report.told report.place
  pub table_left : table' ≡ left report.told TABLE table
  pub work_left : work' ≡ left report.told WORK work
  pub silent : (y : Refusal) → report.told ≡ refused y → (report.printed ≡ 0) × (output' ≡ output)

module _ {P : Type 0} {o : Origin P} (Row : Lent → Told → P → Type 0) where
  -- all but the table of numbers is so of any origin
  pub check_listed : {table t' : List ℕ} {c : CheckReport P} → Check o table c t' → Row (check_lent table) c.told c.place
      → CheckDemand1 Row table c t'
  check_listed a h = record { listed = h; no_stop = check_never_stops a.answer; table_left = a.table_left }

  pub run_listed : {table work output : List ℕ} {allowance : ℕ} {r : RunReport P} {t' w' o' : List ℕ}
      → Run o table work output allowance r t' w' o' → Row (run_lent table work output allowance) r.told r.place
      → RunDemand1 Row table work output allowance r t' w' o'
  run_listed {output = output} a h = record {
    listed = h;
    table_left = a.table_left;
    work_left = a.work_left;
    silent = λ y e.
        let s = Demand1.silent a.answer y e in
        (s.0, a.output_left ∙ ap (λ (bs : List ℕ). bs ++ drop (length bs) output) s.1);
  }

-- The table of any origin: what is told, when, and at which place. What an origin denies, and where, is its own matter; rows that
-- differ in their number alone stand together.
module _ {P : Type 0} (o : Origin P) (l : Lent) where
  pub data OriginRow : Told → P → Type 0 where
    row_40 : (l.table < TABLE) ⊎ (l.work < WORK) → OriginRow (refused short_memory) o.nowhere
    row_41 : ALLOWANCE < l.allowance → OriginRow (refused large_allowance) o.nowhere
    rows_of_its_own : {r : Refusal} {x : P} → o.denies r x → OriginRow (refused r) x
    row_20 : {ts : List Token} {i : ℕ} → o.gives ts → FirstWrong ts i → OriginRow (refused no_reading) (o.at ts i)
    rows_30_to_37 : {ts : List Token} {p : Program} {r : Reason} {i : ℕ} → o.gives ts → Reading ts p → HasFault p r i
        → OriginRow (refused (types r)) (o.at ts i)
    row_0 : {ts : List Token} {p : Program} {t : Ty} → o.gives ts → Reading ts p → HasType p t → OriginRow passed o.nowhere
    rows_50_to_58 : {ts : List Token} {p : Program} {t : Ty} {w : Stop} {i : ℕ} {s : State} → o.gives ts → Reading ts p → HasType p t
        → run p l.allowance l.output ≡ stop w i s → OriginRow (stopped w) (o.at ts i)

  refused_row : {r : Refusal} {x : P} → Refused o r x → OriginRow (refused r) x
  refused_row (by_origin d) = rows_of_its_own d
  refused_row (by_tokens g (unread h)) = row_20 g h
  refused_row (by_tokens g (faulty a f)) = rows_30_to_37 g a f

  module _ {ts : List Token} {p : Program} {t : Ty} (a : Passes o ts p t) where
    abbrev EndRow : Option Ending → Type 0
    EndRow none = Unit {0}
    EndRow (some e) = OriginRow e.told (place_in o ts e.spot)

    end_row : (m : Outcome) → run p l.allowance l.output ≡ m → EndRow (ending l.allowance m)
    unfolding ending
    end_row (value v s) x = row_0 a.given a.proper.reads a.proper.typed
    end_row (stop w i s) x = rows_50_to_58 a.given a.proper.reads a.proper.typed x
    end_row stuck x = tt

  checked_row : {c : CheckReport P} → Checked o l.table c → OriginRow c.told c.place
  checked_row (check_short h) = row_40 (inl h)
  checked_row (check_refused h a) = refused_row a
  checked_row (check_passed h a) = row_0 a.given a.proper.reads a.proper.typed

  ran_row : {r : RunReport P} {bs : List ℕ} → Ran o l r bs → OriginRow r.told r.place
  ran_row (run_short h) = row_40 h
  ran_row (run_large e h) = row_41 h
  ran_row (run_refused e h a) = refused_row a
  ran_row (run_ended {p = p} e h a x) = subst (EndRow a) x (end_row a (run p l.allowance l.output) refl)

-- ---- demand 2

-- A program that passed is run to the end of its meaning, and there is one: value, or stop and its place, units and bytes printed are
-- told and left as it has them.
pub record RunDemand2 {P : Type 0} (o : Origin P) (ts : List Token) (p : Program) (t : Ty) (output : List ℕ) (allowance : ℕ) (report : RunReport P)
    (output' : List ℕ) : Type 0 where
  pub end : Ending
  pub means : ending allowance (run p allowance (length output)) ≡ some end
  pub told : report ≡ after_run o ts t end
  pub output_left : output' ≡ end.printed ++ drop (length end.printed) output

-- ---- check

module _ {P : Type 0} {o : Origin P} (law : Lawful o) {table t' : List ℕ} {c : CheckReport P} (a : Check o table c t') where
  pub check_one : CheckDemand1 (OriginRow o) table c t'
  check_one = check_listed (OriginRow o) a (checked_row o (check_lent table) a.answer)

  -- Demand 3: it passes with the type t exactly when the origin comes to tokens, the tokens have a reading and the reading has the
  -- type t; it says "not a program" exactly when it comes to tokens and no reading exists.
  pub check_three : TABLE ≤ length table → (t : Ty) → ((c.told ≡ passed) × (c.type ≡ type_number t)) ↔ IsProgram o t
  check_three long t = check_type_exactly law long a.answer t

  pub check_three_none : TABLE ≤ length table → (c.told ≡ refused no_reading) ↔ NoProgram o
  check_three_none long = check_none_exactly law long a.answer

  -- R11.2: what passed is never stuck, and a run of it ends with a value of its type or a listed stop
  pub sound : c.told ≡ passed → Sound o c
  sound e = HeadOffice.passed_sound law a e

-- ---- run

module _ {P : Type 0} {o : Origin P} (law : Lawful o) {table work output : List ℕ} {allowance : ℕ} {r : RunReport P} {t' w' o' : List ℕ}
    (a : Run o table work output allowance r t' w' o') where
  pub run_one : RunDemand1 (OriginRow o) table work output allowance r t' w' o'
  run_one = run_listed (OriginRow o) a (ran_row o (run_lent table work output allowance) a.answer)

  module _ (long : TABLE ≤ length table) (wide : WORK ≤ length work) (fair : allowance ≤ ALLOWANCE) where
    enough : Enough (run_lent table work output allowance)
    enough = record { table = long; work = wide }

    pub run_two : {ts : List Token} {p : Program} {t : Ty} → Passes o ts p t → RunDemand2 o ts p t output allowance r o'
    run_two {p = p} {t = t} passes =
        let z = some_ending p t allowance (length output) passes.proper.typed in
        let x = one_ran law (run_lent table work output allowance) a.answer (run_ended enough fair passes z.1) in
        record {
          end = z.0;
          means = z.1;
          told = x.0;
          output_left = a.output_left ∙ ap (λ (bs : List ℕ). bs ++ drop (length bs) output) x.1;
        }

    -- demand 3: it ends in a value or a stop with the type t exactly where check passes with it
    pub run_three : (t : Ty) → (IsRun r.told × (r.type ≡ type_number t)) ↔ IsProgram o t
    run_three t = run_type_exactly law enough fair a.answer t

    pub run_three_none : (r.told ≡ refused no_reading) ↔ NoProgram o
    run_three_none = run_none_exactly law enough fair a.answer

  -- R11.3: if it does not end in 50, a run with any larger allowance gives the same report, output and memories
  pub more_units : {many : ℕ} {q : RunReport P} {t'' w'' o'' : List ℕ} → allowance ≤ many → many ≤ ALLOWANCE
      → Run o table work output many q t'' w'' o'' → (number r.told ≡ 50 → ⊥) → (r ≡ q) × (o' ≡ o'') × (t' ≡ t'') × (w' ≡ w'')
  more_units h k b n = HeadOffice.more_units law h k a b n
