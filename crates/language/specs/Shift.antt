-- The shift report (R14): a rule book whose function `pay` is called once for each line of an input, and what is told
-- of all the lines together. It stands above the language: check and run know nothing of it.
use Rattle.std.specs.Prelude.{Bool, true, false, cond, ◌&&◌, ◌||◌, List, [], ◌∷◌, ◌++◌, ◌⊎◌, ◌≡◌, length, take, drop}
use Rattle.std.specs.Prelude.{ℕ, zero, suc, ◌+◌, ◌/◌, ◌%◌, ◌≤◌, ◌<◌, eqb, leb, ltb, ℤ, pos, ◌+ℤ◌}
use Rattle.std.proofs.Math.Option.{Option, none, some}
use Prim.Native.Char.{code}
use Rattle.std.proofs.Math.Seq.{slice}
use Rattle.std.specs.Int.Signed.{lt_z}
use Rattle.language.specs.Sizes.{ALLOWANCE, TABLE, WORK, LARGEST, LINES}
use Rattle.language.specs.Tokens.{Spelling, spell, Token}
use Rattle.language.specs.Text.{between, is_digit, is_in_line, number_from}
use Rattle.language.specs.Trees.{Name, Ty, int, literal, whole, Def, Program}
use Rattle.language.specs.Types.{sig}
use Rattle.language.specs.State.{Stop, number}
use Rattle.language.specs.Numbers.{Refusal, short_memory, large_allowance, refusal_number, stop_number}
use Rattle.language.specs.Numbers.{passed}
use Rattle.language.specs.Numbers as Numbers
use Rattle.language.specs.Answers.{Passes, Refused, Lent, Enough, RunReport, Ran}
use Rattle.language.specs.Pairs.{Place, front}
use Rattle.language.specs.Edition.{pair_in}

-- ---- lines (R14.2)

-- the bytes of a line, and whether its LF stands behind them
pub record Line : Type 0 where
  pub bytes : List ℕ
  pub ended : Bool

-- one byte more in front of the first line
abbrev pub led_by : ℕ → List Line → List Line
led_by b [] = record { bytes = b ∷ []; ended = false } ∷ []
led_by b (l ∷ ls) = record { bytes = b ∷ l.bytes; ended = l.ended } ∷ ls

-- An input is its lines: each goes up to its LF, and the last one, where no LF follows, up to the end.
unfoldable pub lines : List ℕ → List Line
lines [] = []
lines (b ∷ input) = cond (is_in_line b) (led_by b (lines input)) (record { bytes = []; ended = true } ∷ lines input)

-- ---- good lines and bad ones (R14.2, R14.4)

-- hexadecimal in capitals
unfoldable pub is_capital_hex : ℕ → Bool
is_capital_hex b = is_digit b || between "A" "F" b

unfoldable pub all_bytes : (ℕ → Bool) → List ℕ → Bool
all_bytes f [] = true
all_bytes f (b ∷ bs) = f b && all_bytes f bs

-- what a loom did in the shift; its own number is not needed
pub record Job : Type 0 where
  pub picks : ℕ
  pub rate : ℕ

-- R14.3: the loom in four digits, then picks and rate in eight each
abbrev pub job_in : List ℕ → Job
job_in bytes = record { picks = number_from 16 0 (slice 4 12 bytes); rate = number_from 16 0 (slice 12 20 bytes) }

abbrev pub written_as_ints : Job → Bool
written_as_ints j = leb j.picks LARGEST && leb j.rate LARGEST

abbrev pub is_good : Line → Bool
is_good l =
    l.ended
    && (eqb (length l.bytes) 20 && (all_bytes is_capital_hex l.bytes && written_as_ints (job_in l.bytes)))

-- the job of a good line; a bad one has none
unfoldable pub job_of : Line → Option Job
job_of l = cond (is_good l) (some (job_in l.bytes)) none

-- ---- the call of a job (R14.5)

-- n in decimal, its first digit 0 only where it is alone; nine digits may stand before the last, which is enough for
-- every number that can be written
unfoldable pub decimal_with : ℕ → ℕ → Spelling
decimal_with zero n = (code "0" + n) ∷ []
decimal_with (suc more) n =
    cond (ltb n 10) ((code "0" + n) ∷ []) (decimal_with more (n / 10) ++ ((code "0" + n % 10) ∷ []))

abbrev pub decimal : ℕ → Spelling
decimal n = decimal_with 9 n

abbrev pub PAY : Name
PAY = spell "pay"

unfoldable pub call_of : Job → List ℕ
call_of j = PAY ++ (spell "(" ++ (decimal j.picks ++ (spell "," ++ (decimal j.rate ++ spell ")"))))

-- ---- what a line comes to (R14.4 to R14.6)

pub data Outcome : Type 0 where
  bad : Outcome
  stopped : Stop → Outcome
  paid : ℤ → Outcome

-- a job runs afresh the book with its call; what comes of it, and the bytes printed
pub data Runs (n : ℕ) (book : List ℕ) (l : Lent) (j : Job) : Outcome → List ℕ → Type 0 where
  runs_to_stop : {r : RunReport Place} {s : Stop} {printed : List ℕ}
      → Ran (pair_in n book (call_of j)) l r printed → r.told ≡ Numbers.stopped s → Runs n book l j (stopped s) printed
  runs_to_pay : {r : RunReport Place} {z : ℤ} {printed : List ℕ}
      → Ran (pair_in n book (call_of j)) l r printed → r.told ≡ passed → r.value ≡ number z
      → Runs n book l j (paid z) printed

-- nothing is run for a bad line
pub data Comes (n : ℕ) (book : List ℕ) (l : Lent) (line : Line) : Outcome → List ℕ → Type 0 where
  comes_bad : job_of line ≡ none → Comes n book l line bad []
  comes_run : {j : Job} {o : Outcome} {printed : List ℕ}
      → job_of line ≡ some j → Runs n book l j o printed → Comes n book l line o printed

-- The lines one after the other; each prints from the front of the lent output, over what the ones before it left.
pub data AllCome (n : ℕ) (book : List ℕ) (l : Lent) : List Line → List Outcome → List ℕ → List ℕ → Type 0 where
  none_comes : {output : List ℕ} → AllCome n book l [] [] output output
  one_comes : {line : Line} {ls : List Line} {o : Outcome} {os : List Outcome} {printed output output' : List ℕ}
      → Comes n book l line o printed → AllCome n book l ls os (printed ++ drop (length printed) output) output'
      → AllCome n book l (line ∷ ls) (o ∷ os) output output'

-- ---- the report (R14.6)

unfoldable pub tally : (Outcome → Bool) → List Outcome → ℕ
tally f [] = 0
tally f (o ∷ os) = cond (f o) 1 0 + tally f os

abbrev pub is_bad : Outcome → Bool
is_bad bad = true
is_bad (stopped s) = false
is_bad (paid z) = false

abbrev pub is_stop : Stop → Outcome → Bool
is_stop s bad = false
is_stop s (stopped t) = eqb (stop_number s) (stop_number t)
is_stop s (paid z) = false

-- the pays, of the lines that are neither bad nor stopped
abbrev pub pay_before : Outcome → List ℤ → List ℤ
pay_before bad zs = zs
pay_before (stopped s) zs = zs
pay_before (paid z) zs = z ∷ zs

unfoldable pub pays : List Outcome → List ℤ
pays [] = []
pays (o ∷ os) = pay_before o (pays os)

unfoldable pub total : List ℤ → ℤ
total [] = pos 0
total (z ∷ zs) = z +ℤ total zs

abbrev pub lesser : ℤ → ℤ → ℤ
lesser y z = cond (lt_z z y) z y

abbrev pub greater : ℤ → ℤ → ℤ
greater y z = cond (lt_z y z) z y

-- what a choice of two comes to over all, from the first on; 0 where there is none
unfoldable pub chosen_from : (ℤ → ℤ → ℤ) → ℤ → List ℤ → ℤ
chosen_from f y [] = y
chosen_from f y (z ∷ zs) = chosen_from f (f y z) zs

unfoldable pub chosen : (ℤ → ℤ → ℤ) → List ℤ → ℤ
chosen f [] = pos 0
chosen f (z ∷ zs) = chosen_from f z zs

pub record Report : Type 0 where
  pub lines : ℕ
  pub bad : ℕ
  pub stops : Stop → ℕ
  pub sum : ℤ
  pub least : ℤ
  pub largest : ℤ

unfoldable pub report_of : List Outcome → Report
report_of os = record {
  lines = length os;
  bad = tally is_bad os;
  stops = λ s. tally (is_stop s) os;
  sum = total (pays os);
  least = chosen lesser (pays os);
  largest = chosen greater (pays os);
}

-- ---- the whole shift

-- A shift is refused as a sheet is, or for a book that is none (47), or for a line past the last it may have (46).
pub data ShiftRefusal : Type 0 where
  sheet : Refusal → ShiftRefusal
  no_book many_lines : ShiftRefusal

abbrev pub shift_number : ShiftRefusal → ℕ
shift_number (sheet r) = refusal_number r
shift_number no_book = 47
shift_number many_lines = 46

-- R14.7, 47: the functions of the book, whose program with `0` set under it is p, have `pay` from two ints to int
-- among them, and no token of it stands outside them: the last expression is a number alone, the `0`
pub data Among (d : Def) : List Def → Type 0 where
  here : {ds : List Def} → Among d (d ∷ ds)
  later : {c : Def} {ds : List Def} → Among d ds → Among d (c ∷ ds)

pub record Book (p : Program) : Type 0 where
  pub own : ℕ
  pub worth : ℕ
  pub rest : p.main ≡ literal own (whole worth)
  pub pay : Def
  pub among : Among pay p.defs
  pub called : pay.called ≡ PAY
  pub typed : sig pay ≡ record { takes = int ∷ int ∷ []; gives = int }

abbrev pub ZERO : List ℕ
ZERO = spell "0"

abbrev pub LARGEST_CALL : List ℕ
LARGEST_CALL = call_of record { picks = LARGEST; rate = LARGEST }

-- what is told before any line, and where: nothing, or a refusal
pub record Admission : Type 0 where
  pub told : Option ShiftRefusal
  pub place : Place

abbrev pub turned_away : ShiftRefusal → Place → Admission
turned_away r x = record { told = some r; place = x }

-- R14.7, in its order
pub data Admits (n : ℕ) (book : List ℕ) (l : Lent) : Admission → Type 0 where
  admit_short : (l.table < TABLE) ⊎ (l.work < WORK) → Admits n book l (turned_away (sheet short_memory) front)
  admit_large : Enough l → ALLOWANCE < l.allowance → Admits n book l (turned_away (sheet large_allowance) front)
  admit_refused : {r : Refusal} {x : Place} → Enough l → l.allowance ≤ ALLOWANCE
      → Refused (pair_in n book ZERO) r x → Admits n book l (turned_away (sheet r) x)
  admit_no_book : {ts : List Token} {p : Program} {t : Ty} → Enough l → l.allowance ≤ ALLOWANCE
      → Passes (pair_in n book ZERO) ts p t → (Book p → ⊥) → Admits n book l (turned_away no_book front)
  -- 10 or 14: nothing else can be wrong with the call under a book (proofs/Shift)
  admit_no_room : {ts : List Token} {p : Program} {t : Ty} {r : Refusal} {x : Place}
      → Enough l → l.allowance ≤ ALLOWANCE → Passes (pair_in n book ZERO) ts p t → Book p
      → (pair_in n book LARGEST_CALL).denies r x
      → Admits n book l (turned_away (sheet r) x)
  admit : {ts us : List Token} {p : Program} {t : Ty} → Enough l → l.allowance ≤ ALLOWANCE
      → Passes (pair_in n book ZERO) ts p t → Book p → (pair_in n book LARGEST_CALL).gives us
      → Admits n book l record { told = none; place = front }

-- R14.6: of the lines up to the limit; where there is a further one, 46 besides
unfoldable pub told_of : List Line → Option ShiftRefusal
told_of ls = cond (ltb LINES (length ls)) (some many_lines) none

-- R14.8: what is told of the whole input of a book that was admitted, and what is left in the lent output
pub record Shift (n : ℕ) (book : List ℕ) (l : Lent) (input output : List ℕ) (told : Option ShiftRefusal)
    (report : Report) (output' : List ℕ) : Type 0 where
  pub outcomes : List Outcome
  pub come : AllCome n book l (take LINES (lines input)) outcomes output output'
  pub reports : report ≡ report_of outcomes
  pub refuses : told ≡ told_of (lines input)
