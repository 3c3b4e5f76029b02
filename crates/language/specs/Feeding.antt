-- An input that comes in pieces (R14.8): what is known of it so far, and what one byte more makes of that. The report
-- of the whole input is in Shift; proofs/Shift shows that it is this one, wherever the input is cut.
use Rattle.std.specs.Prelude.{length, drop, Bool, true, false, cond, List, [], ◌∷◌, ◌++◌, ◌≡◌, ℕ, ◌≤◌, ◌<◌}
use Rattle.std.proofs.Math.Option.{Option, none, some}
use Rattle.language.specs.Sizes.{LINES}
use Rattle.language.specs.Text.{is_in_line}
use Rattle.language.specs.Answers.{Lent}
use Rattle.language.specs.Shift.{Line, Outcome, bad, Comes, ShiftRefusal, many_lines}

-- ---- so far

-- what the lines that have ended came to, the bytes of the one that has not, whether there was a line too many, and the
-- lent output
pub record Sofar : Type 0 where
  pub outcomes : List Outcome
  pub part : List ℕ
  pub over : Bool
  pub output : List ℕ

abbrev pub begun : List ℕ → Sofar
begun output = record { outcomes = []; part = []; over = false; output = output }

abbrev pub filled : Sofar → Sofar
filled s = record { outcomes = s.outcomes; part = s.part; over = true; output = s.output }

abbrev pub with_byte : Sofar → ℕ → Sofar
with_byte s b = record { outcomes = s.outcomes; part = s.part ++ (b ∷ []); over = s.over; output = s.output }

abbrev pub with_outcome : Sofar → Outcome → List ℕ → Sofar
with_outcome s o printed = record {
  outcomes = s.outcomes ++ (o ∷ []);
  part = [];
  over = s.over;
  output = printed ++ drop (length printed) s.output;
}

abbrev pub ended_line : List ℕ → Line
ended_line bytes = record { bytes = bytes; ended = true }

abbrev pub open_line : List ℕ → Line
open_line bytes = record { bytes = bytes; ended = false }

-- one byte more
pub data Steps (ed : ℕ) (book : List ℕ) (l : Lent) (s : Sofar) (b : ℕ) : Sofar → Type 0 where
  step_past : s.over ≡ true → Steps ed book l s b s
  step_full : s.over ≡ false → LINES ≤ length s.outcomes → Steps ed book l s b (filled s)
  step_byte : s.over ≡ false → length s.outcomes < LINES → is_in_line b ≡ true → Steps ed book l s b (with_byte s b)
  step_feed : {o : Outcome} {printed : List ℕ} → s.over ≡ false → length s.outcomes < LINES → is_in_line b ≡ false
      → Comes ed book l (ended_line s.part) o printed → Steps ed book l s b (with_outcome s o printed)

-- one after the other
pub data Fed (ed : ℕ) (book : List ℕ) (l : Lent) : Sofar → List ℕ → Sofar → Type 0 where
  fed_none : {s : Sofar} → Fed ed book l s [] s
  fed_more : {s m e : Sofar} {b : ℕ} {bs : List ℕ} → Steps ed book l s b m → Fed ed book l m bs e
      → Fed ed book l s (b ∷ bs) e

-- ---- what is told at the end

abbrev pub rest_of : List ℕ → List Outcome
rest_of [] = []
rest_of (b ∷ p) = bad ∷ []

unfoldable pub closed : Sofar → List Outcome
closed s = cond s.over s.outcomes (s.outcomes ++ rest_of s.part)

unfoldable pub closed_told : Sofar → Option ShiftRefusal
closed_told s = cond s.over (some many_lines) none
