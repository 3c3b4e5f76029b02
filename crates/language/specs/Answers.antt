-- What check and run answer for everything they can be lent, and what they leave in it (S004, S091 to S101). It goes in
-- three steps: where the tokens come from, what becomes of tokens, and what becomes of a program. Only the first knows
-- places. What a name that ends in Under says is of any sizes σ (R13.5); without it, of the box's, and contracts cite
-- those.
use Rattle.std.specs.Prelude.{Bool, true, false, cond, List, [], ◌++◌, reverse, ◌⊎◌, ◌≡◌, ℕ, ◌-◌, ◌≤◌, ◌<◌, ltb, length, drop, replicate}
use Rattle.std.proofs.Math.Option.{Option, none, some}
use Rattle.language.specs.Sizes.{Sizes, BOX, ALLOWANCE, WORK}
use Rattle.language.specs.Tokens.{Vocabulary, Token, place_at}
use Rattle.language.specs.Text.{Flaw, SplitsUnder, FlawedUnder}
use Rattle.language.specs.Trees.{Ty, Program}
use Rattle.language.specs.Grammar.{Reading}
use Rattle.language.specs.Starts.{FirstWrong}
use Rattle.language.specs.Types.{HasTypeUnder}
use Rattle.language.specs.Faults.{Reason, HasFaultUnder}
use Rattle.language.specs.State.{Value, nothing, State, Outcome, value, stop, stuck}
use Rattle.language.specs.Meaning.{run, type_number}
use Rattle.language.specs.Numbers.{Refusal, short_memory, large_allowance, no_edition, long_source}
use Rattle.language.specs.Numbers.{text, no_reading, types, Told, passed, refused, stopped}
use Rattle.language.specs.Numbers.{long_text, not_hexadecimal, wrong_count, not_one_token}
use Rattle.language.specs.Numbers.{endless_node, many_units}

-- ---- where tokens come from

-- what an answer points at: nothing, or a token by its ordinal; the ordinal behind the last token's is the end
pub data Spot : Type 0 where
  nowhere : Spot
  at : ℕ → Spot

-- P is what a place is
pub record Origin (P : Type 0) : Type 1 where
  -- it comes to these tokens
  pub gives : List Token → Type 0
  -- or to none, and why and where
  pub denies : Refusal → P → Type 0
  -- the place of nothing, and that of a token or the end
  pub nowhere : P
  pub at : List Token → ℕ → P

abbrev pub place_in : {P : Type 0} → Origin P → List Token → Spot → P
place_in o ts nowhere = o.nowhere
place_in o ts (at i) = o.at ts i

-- A text by a vocabulary. Its places are bytes (S044): a token's is where it begins, and the end's is the length of the
-- text.
module _ (σ : Sizes) (voc : Vocabulary) (source : List ℕ) where
  pub data TextDeniesUnder : Refusal → ℕ → Type 0 where
    too_long : σ.source < length source → TextDeniesUnder long_source 0
    flawed : {f : Flaw} {p : ℕ} → length source ≤ σ.source → FlawedUnder σ voc source f p → TextDeniesUnder (text f) p

  pub record TextGivesUnder (ts : List Token) : Type 0 where
    pub short : length source ≤ σ.source
    pub splits : SplitsUnder σ voc source ts

  abbrev pub text_under : Origin ℕ
  text_under = record {
    gives = TextGivesUnder;
    denies = TextDeniesUnder;
    nowhere = 0;
    at = λ ts i. cond (ltb i (length ts)) (place_at ts i) (length source);
  }

abbrev pub TextDenies : Vocabulary → List ℕ → Refusal → ℕ → Type 0
TextDenies = TextDeniesUnder BOX

abbrev pub TextGives : Vocabulary → List ℕ → List Token → Type 0
TextGives = TextGivesUnder BOX

abbrev pub from_text : Vocabulary → List ℕ → Origin ℕ
from_text = text_under BOX

-- ---- what becomes of tokens

module _ (σ : Sizes) (ts : List Token) where
  -- they are a program of this type
  pub record ProperUnder (p : Program) (t : Ty) : Type 0 where
    pub reads : Reading ts p
    pub typed : HasTypeUnder σ p t

  -- or not, and why and at which token; a fault's order is in Faults
  pub data DeniedUnder : Refusal → Spot → Type 0 where
    -- R01.3: at the first token with which no program goes on, or at the end
    unread : {i : ℕ} → FirstWrong ts i → DeniedUnder no_reading (at i)
    faulty : {p : Program} {r : Reason} {i : ℕ} → Reading ts p → HasFaultUnder σ p r i → DeniedUnder (types r) (at i)

-- The two steps together: what an origin comes to.
module _ (σ : Sizes) {P : Type 0} (o : Origin P) where
  pub record PassesUnder (ts : List Token) (p : Program) (t : Ty) : Type 0 where
    pub given : o.gives ts
    pub proper : ProperUnder σ ts p t

  pub data RefusedUnder : Refusal → P → Type 0 where
    by_origin : {r : Refusal} {x : P} → o.denies r x → RefusedUnder r x
    by_tokens : {ts : List Token} {r : Refusal} {s : Spot} → o.gives ts → DeniedUnder σ ts r s
        → RefusedUnder r (place_in o ts s)

abbrev pub Proper : List Token → Program → Ty → Type 0
Proper = ProperUnder BOX

abbrev pub Denied : List Token → Refusal → Spot → Type 0
Denied = DeniedUnder BOX

abbrev pub Passes : {P : Type 0} → Origin P → List Token → Program → Ty → Type 0
Passes o = PassesUnder BOX o

abbrev pub Refused : {P : Type 0} → Origin P → Refusal → P → Type 0
Refused o = RefusedUnder BOX o

-- ---- what becomes of a program

-- what is told of its end and at which token, its value (R08.6), which is nothing where it stopped, the units used, and
-- the bytes printed, the first one first
pub record Ending : Type 0 where
  pub told : Told
  pub spot : Spot
  pub value : Value
  pub units : ℕ
  pub printed : List ℕ

-- units used are those that the allowance has lost
abbrev pub ended : ℕ → Told → Spot → Value → State → Ending
ended allowance a i v s =
    record { told = a; spot = i; value = v; units = allowance - s.units; printed = reverse s.printed }

-- S097; no reading that has a type is stuck
unfoldable pub ending : ℕ → Outcome → Option Ending
ending allowance (value v s) = some (ended allowance passed nowhere v s)
ending allowance (stop w i s) = some (ended allowance (stopped w) (at i) nothing s)
ending allowance stuck = none

-- ---- what is left in lent memory (S100): the required words zero, those past them as before; after 40 all as before

abbrev pub keeps : Refusal → Bool
keeps short_memory = true
keeps large_allowance = false
keeps no_edition = false
keeps long_source = false
keeps (text f) = false
keeps no_reading = false
keeps (types r) = false
keeps long_text = false
keeps not_hexadecimal = false
keeps wrong_count = false
keeps not_one_token = false
keeps endless_node = false
keeps many_units = false

unfoldable pub cleared : ℕ → List ℕ → List ℕ
cleared n words = replicate n 0 ++ drop n words

unfoldable pub left : Told → ℕ → List ℕ → List ℕ
left passed n words = cleared n words
left (refused r) n words = cond (keeps r) words (cleared n words)
left (stopped s) n words = cleared n words

-- ---- check (S101)

-- the number reported is that of what is told
pub record CheckReport (P : Type 0) : Type 0 where
  pub told : Told
  pub place : P
  pub type : ℕ

abbrev pub check_report : {P : Type 0} → Told → P → ℕ → CheckReport P
check_report a x t = record { told = a; place = x; type = t }

module _ (σ : Sizes) {P : Type 0} (o : Origin P) where
  -- the report, for so many words of table memory
  pub data CheckedUnder (table : ℕ) : CheckReport P → Type 0 where
    check_short : table < σ.table → CheckedUnder table (check_report (refused short_memory) o.nowhere 0)
    check_refused : {r : Refusal} {x : P} → σ.table ≤ table → RefusedUnder σ o r x
        → CheckedUnder table (check_report (refused r) x 0)
    check_passed : {ts : List Token} {p : Program} {t : Ty} → σ.table ≤ table → PassesUnder σ o ts p t
        → CheckedUnder table (check_report passed o.nowhere (type_number t))

  -- The contract of check: its report, and the table memory as it is left.
  pub record CheckUnder (table : List ℕ) (report : CheckReport P) (table' : List ℕ) : Type 0 where
    pub answer : CheckedUnder (length table) report
    pub table_left : table' ≡ left report.told σ.table table

abbrev pub Checked : {P : Type 0} → Origin P → ℕ → CheckReport P → Type 0
Checked o = CheckedUnder BOX o

abbrev pub Check : {P : Type 0} → Origin P → List ℕ → CheckReport P → List ℕ → Type 0
Check o = CheckUnder BOX o

-- ---- run

pub record RunReport (P : Type 0) : Type 0 where
  pub told : Told
  pub place : P
  pub type : ℕ
  pub value : Value
  pub units : ℕ
  -- how many bytes were printed (S095)
  pub printed : ℕ

-- what a run is lent, lengths alone: words of table and work memory, bytes of output (S008); and the units it is
-- allowed
pub record Lent : Type 0 where
  pub table : ℕ
  pub work : ℕ
  pub output : ℕ
  pub allowance : ℕ

pub record EnoughUnder (σ : Sizes) (l : Lent) : Type 0 where
  pub table : σ.table ≤ l.table
  pub work : WORK ≤ l.work

abbrev pub Enough : Lent → Type 0
Enough = EnoughUnder BOX

-- S096
abbrev pub refusal : {P : Type 0} → Refusal → P → RunReport P
refusal r x = record { told = refused r; place = x; type = 0; value = nothing; units = 0; printed = 0 }

abbrev pub after_run : {P : Type 0} → Origin P → List Token → Ty → Ending → RunReport P
after_run o ts t e = record {
  told = e.told;
  place = place_in o ts e.spot;
  type = type_number t;
  value = e.value;
  units = e.units;
  printed = length e.printed;
}

module _ (σ : Sizes) {P : Type 0} (o : Origin P) where
  -- the report, and the bytes printed
  pub data RanUnder (l : Lent) : RunReport P → List ℕ → Type 0 where
    run_short : (l.table < σ.table) ⊎ (l.work < WORK) → RanUnder l (refusal short_memory o.nowhere) []
    run_large : EnoughUnder σ l → ALLOWANCE < l.allowance → RanUnder l (refusal large_allowance o.nowhere) []
    run_refused : {r : Refusal} {x : P} → EnoughUnder σ l → l.allowance ≤ ALLOWANCE → RefusedUnder σ o r x
        → RanUnder l (refusal r x) []
    run_ended : {ts : List Token} {p : Program} {t : Ty} {e : Ending}
        → EnoughUnder σ l → l.allowance ≤ ALLOWANCE → PassesUnder σ o ts p t
        → ending l.allowance (run p l.allowance l.output) ≡ some e
        → RanUnder l (after_run o ts t e) e.printed

  -- The contract of run: its report, and the two memories and the output as they are left (S098 to S100).
  pub record RunUnder (table work output : List ℕ) (allowance : ℕ) (report : RunReport P)
      (table' work' output' : List ℕ) : Type 0 where
    pub printed : List ℕ
    pub answer : RanUnder
        record { table = length table; work = length work; output = length output; allowance = allowance }
        report printed
    pub table_left : table' ≡ left report.told σ.table table
    pub work_left : work' ≡ left report.told WORK work
    pub output_left : output' ≡ printed ++ drop (length printed) output

abbrev pub Ran : {P : Type 0} → Origin P → Lent → RunReport P → List ℕ → Type 0
Ran o = RanUnder BOX o

abbrev pub Run : {P : Type 0} → Origin P → List ℕ → List ℕ → List ℕ → ℕ → RunReport P
    → List ℕ → List ℕ → List ℕ → Type 0
Run o = RunUnder BOX o
