-- A line of a shift, byte by byte: what is kept of it. Vocabulary for contracts; that it tells the written job of the
-- line is shown in proofs/.
use Rattle.std.specs.Prelude.{Bool, true, false, cond, List, [], ◌∷◌, ℕ, ◌+◌, ◌*◌, eqb, leb, ltb, Option, Some, None}
use Rattle.language.specs.Sizes.{LARGEST}
use Rattle.language.specs.Text.{worth}
use Rattle.language.specs.Shift.{is_capital_hex}
use Rattle.tally.specs.declared.lines.Part.{Part}
use Rattle.tally.specs.declared.lines.Job.{Job}

abbrev pub no_part : Part
no_part = record { at = 0; picks = 0; rate = 0; bad = false }

abbrev pub spoilt : Part → Part
spoilt p = record { at = p.at; picks = p.picks; rate = p.rate; bad = true }

-- one digit more, of the loom, of the picks, of the rate
abbrev pub with_loom : Part → Part
with_loom p = record { at = p.at + 1; picks = p.picks; rate = p.rate; bad = p.bad }

abbrev pub with_picks : Part → ℕ → Part
with_picks p d = record { at = p.at + 1; picks = p.picks * 16 + d; rate = p.rate; bad = p.bad }

abbrev pub with_rate : Part → ℕ → Part
with_rate p d = record { at = p.at + 1; picks = p.picks; rate = p.rate * 16 + d; bad = p.bad }

unfoldable pub with_digit : Part → ℕ → Part
with_digit p d =
    cond (ltb p.at 4) (with_loom p)
    (cond (ltb p.at 12) (cond (leb p.picks LARGEST) (with_picks p d) (spoilt p))
    (cond (leb p.rate LARGEST) (with_rate p d) (spoilt p)))

-- what a byte tells: what it is worth, if it is a digit
unfoldable pub digit_told : ℕ → Option ℕ
digit_told b = cond (is_capital_hex b) (Some (worth b)) None

unfoldable pub longer : Part → ℕ → Part
longer p b =
    cond p.bad p
    (cond (ltb p.at 20) (cond (is_capital_hex b) (with_digit p (worth b)) (spoilt p)) (spoilt p))

-- what is kept of some bytes more
unfoldable pub longer_by : Part → List ℕ → Part
longer_by p [] = p
longer_by p (b ∷ bytes) = longer_by (longer p b) bytes

unfoldable pub is_begun : Part → Bool
is_begun p = cond p.bad true (ltb 0 p.at)

unfoldable pub job_told : Part → Option Job
job_told p =
    cond p.bad None
    (cond (eqb p.at 20)
    (cond (leb p.picks LARGEST)
    (cond (leb p.rate LARGEST) (Some record { picks = p.picks; rate = p.rate }) None) None) None)
