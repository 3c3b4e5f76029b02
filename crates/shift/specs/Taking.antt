-- What a piece does to a state, byte by byte, whatever the state is: it is the caller's words, so nothing is asked of
-- it. What each line came to that ended on the way can be read off, in their order.
use Rattle.std.specs.Prelude.{true, false, List, [], ◌∷◌, ◌++◌, ◌≡◌, ℕ, ◌≤◌, ◌<◌, length, drop, Some, None}
use Rattle.language.specs.Sizes.{TABLE, WORK, LINES}
use Rattle.language.specs.Answers.{Lent}
use Rattle.language.specs.Shift.{Runs}
use Rattle.language.specs.Text.{is_in_line}
use Rattle.tally.specs.Parts.{no_part, longer, job_told}
use Rattle.tally.specs.Stands.{outcome_meant}
use Rattle.tally.specs.Sums.{added}
use Rattle.tally.specs.declared.lines.Part.{Part}
use Rattle.tally.specs.declared.sums.Outcome.{Outcome}
use Rattle.shift.specs.declared.State.{State}

-- What a line is lent: the memory that is asked for, so many bytes of output, so many units. More memory changes
-- nothing (proofs/Lending).
abbrev pub needed : ℕ → ℕ → Lent
needed room allowance = record { table = TABLE; work = WORK; output = room; allowance = allowance }

-- ---- a line that ends

-- what it came to, and the bytes that it printed
pub record EndedLine : Type 0 where
  pub outcome : Outcome
  pub printed : List ℕ

-- R14.4, R14.5: what was kept of a line tells a job, whatever was kept; that is run afresh, or there is none and the
-- line is bad
pub data Ends (edition : ℕ) (book : List ℕ) (l : Lent) (part : Part) : EndedLine → Type 0 where
  ends_bad : job_told part ≡ None → Ends edition book l part record { outcome = Outcome.Bad; printed = [] }
  ends_run : {picks rate : ℕ} {o : Outcome} {printed : List ℕ} → job_told part ≡ Some record { picks = picks; rate = rate }
      → Runs edition book l record { picks = picks; rate = rate } (outcome_meant o) printed
      → Ends edition book l part record { outcome = o; printed = printed }

-- R14.5: each line prints from the front of the lent output, over what the ones before it left
unfoldable pub printed_over : List ℕ → List EndedLine → List ℕ
printed_over out [] = out
printed_over out (line ∷ lines) = printed_over (line.printed ++ drop (length line.printed) out) lines

-- ---- states

-- one byte of a line, or a line too many
abbrev pub with_byte : State → ℕ → State
with_byte s b = record { allowance = s.allowance; part = longer s.part b; sums = s.sums; over = s.over }

abbrev pub overfull : State → State
overfull s = record { allowance = s.allowance; part = s.part; sums = s.sums; over = true }

-- a line has ended
abbrev pub summed_up : State → Outcome → State
summed_up s o = record { allowance = s.allowance; part = no_part; sums = added s.sums o; over = s.over }

-- there may be a further line
pub record Going (state : State) : Type 0 where
  pub going : state.over ≡ false
  pub few : state.sums.lines < LINES

-- ---- bytes

-- A byte that ends no line: it comes behind a line too many, or is the first of that one (R14.6), or stands in a line.
pub data EndsNone (s : State) (b : ℕ) : State → Type 0 where
  past : s.over ≡ true → EndsNone s b s
  full : s.over ≡ false → LINES ≤ s.sums.lines → EndsNone s b (overfull s)
  inside : Going s → is_in_line b ≡ true → EndsNone s b (with_byte s b)

-- One byte after the other, from state to state, and the lines that end on the way; each has so much output.
pub data Takes (edition : ℕ) (book : List ℕ) (room : ℕ) : State → List ℕ → List EndedLine → State → Type 0 where
  takes_none : {s : State} → Takes edition book room s [] [] s
  takes_byte : {s m e : State} {b : ℕ} {bytes : List ℕ} {lines : List EndedLine}
      → EndsNone s b m → Takes edition book room m bytes lines e → Takes edition book room s (b ∷ bytes) lines e
  takes_line : {s e : State} {b : ℕ} {bytes : List ℕ} {line : EndedLine} {lines : List EndedLine}
      → Going s → is_in_line b ≡ false → Ends edition book (needed room s.allowance) s.part line
      → Takes edition book room (summed_up s line.outcome) bytes lines e
      → Takes edition book room s (b ∷ bytes) (line ∷ lines) e
