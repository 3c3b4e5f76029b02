-- The report of a shift for machines, read again: each value by its name. What is not there, or is no number that it
-- can be, is read as one that no shift can come to.
use Rattle.std.specs.Prelude.{cond, eqb, ℤ, pos, Bool, false, ◌&&◌, ◌||◌, List, [], ◌∷◌, Option, Some, None, Result, Ok, Err, ℕ}
use Rattle.language.specs.Combining.{paid_lines, possible}
use Rattle.language.specs.Sizes.{LINES}
use Rattle.language.specs.Tokens.{spell}
use Rattle.page.specs.Fields.{count_in, amount_named}
use Rattle.page.specs.Lines.{feeds, behind}
use Rattle.tally.specs.Stands.{report_in}
use Rattle.tally.specs.declared.sums.Sums.{Sums}
use Rattle.records.specs.declared.readings.Reading.{Reading}

abbrev pub or_many : Option ℕ → ℕ
or_many (Some n) = n
or_many None = 65537

unfoldable pub count_told : (name : List ℕ) → List ℕ → ℕ
count_told name t = or_many (count_in LINES name t)

abbrev pub or_much : Option ℤ → ℤ
or_much (Some z) = z
or_much None = pos 4611686018427387904

unfoldable pub amount_told : (name : List ℕ) → List ℕ → ℤ
amount_told name t = or_much (amount_named name t)

abbrev pub nine_told : List ℕ → List ℕ
nine_told t =
    count_told (spell "stopped-50 ") t
    ∷ count_told (spell "stopped-51 ") t
    ∷ count_told (spell "stopped-52 ") t
    ∷ count_told (spell "stopped-53 ") t
    ∷ count_told (spell "stopped-54 ") t
    ∷ count_told (spell "stopped-55 ") t
    ∷ count_told (spell "stopped-56 ") t
    ∷ count_told (spell "stopped-57 ") t
    ∷ count_told (spell "stopped-58 ") t
    ∷ []

abbrev pub sums_told : List ℕ → Sums
sums_told t = record {
  lines = count_told (spell "lines ") t;
  bad = count_told (spell "bad ") t;
  stops = nine_told t;
  paid = count_told (spell "paid ") t;
  sum = amount_told (spell "sum ") t;
  least = amount_told (spell "least ") t;
  largest = amount_told (spell "largest ") t;
}

-- the number that such a report tells is 0 or 46
abbrev pub is_told : Option ℕ → Bool
is_told (Some n) = eqb n 0 || eqb n 46
is_told None = false

abbrev pub over_told : Option ℕ → Bool
over_told (Some n) = eqb n 46
over_told None = false

abbrev pub number_told : List ℕ → Option ℕ
number_told t = count_in 99 (spell "number ") t

-- they can be those of a shift, and as many were paid as is told
unfoldable pub whole : Sums → Bool
whole s = possible (report_in s) && eqb (paid_lines (report_in s)) s.paid

-- As many lines as such a report has, and each has its end; that of parts together tells of no sheet and no allowance.
-- Each of sixteen lines has its name, and a report that is cut, or stands behind another, has fewer or more.
unfoldable pub full : List ℕ → Bool
full t = eqb (behind t) 0 && (eqb (feeds t) 18 || eqb (feeds t) 20)

-- what a text tells of a shift
abbrev pub told_in : List ℕ → Reading
told_in t = record { over = over_told (number_told t); sums = sums_told t }

-- a text that is the report of a shift, or what it tells all the same
unfoldable pub reading_in : List ℕ → Result Reading Reading
reading_in t = cond (full t && (is_told (number_told t) && whole (sums_told t))) (Ok (told_in t)) (Err (told_in t))
