-- Lines, calls and reports of two parts by computation (R14.3 to R14.6).
use lib.IntN.{ℤ, pos, negsuc}
use mathlib.Core.Bool.{Bool, true, false}
use mathlib.Core.List.{[], ◌∷◌}
use mathlib.Core.Option.{none, some}
use mathlib.Core.Path.{◌≡◌, refl}
use Prim.Native.Nat.{ℕ}
use Rattle.language.specs.Tokens.{spell}
use Rattle.language.specs.Text.{between, is_digit, worth, number_from}
use Rattle.language.specs.Meaning.{in_range, is_zero}
use Rattle.language.specs.Shift.{all_bytes, is_capital_hex, job_of, decimal_with, call_of, bad, paid, tally, pays, total, chosen_from}
use Rattle.language.specs.Shift.{chosen, report_of, many_lines}
use Rattle.language.specs.Feeding.{ended_line, open_line}
use Rattle.language.specs.Combining.{all_stops, payable, possible, either_pay, both, addable, no_report, without_sums, together}

-- the line of the paper, and its call
line : job_of (ended_line (spell "00070001117000000003")) ≡ some record { picks = 70000; rate = 3 }
unfolding job_of all_bytes is_capital_hex is_digit between number_from worth
line = refl

call : call_of record { picks = 70000; rate = 3 } ≡ spell "pay(70000,3)"
unfolding call_of decimal_with
call = refl

-- the largest numbers, and 0
largest : job_of (ended_line (spell "FFFF7FFFFFFF00000000")) ≡ some record { picks = 2147483647; rate = 0 }
unfolding job_of all_bytes is_capital_hex is_digit between number_from worth
largest = refl

largest_call : call_of record { picks = 2147483647; rate = 0 } ≡ spell "pay(2147483647,0)"
unfolding call_of decimal_with
largest_call = refl

-- bad ones: no LF; too short; too long; a small letter; a number above the largest
no_feed : job_of (open_line (spell "00070001117000000003")) ≡ none
unfolding job_of
no_feed = refl

short : job_of (ended_line (spell "0007000111700000003")) ≡ none
unfolding job_of
short = refl

long : job_of (ended_line (spell "000700011170000000030")) ≡ none
unfolding job_of
long = refl

small_letter : job_of (ended_line (spell "00070001117a00000003")) ≡ none
unfolding job_of all_bytes is_capital_hex is_digit between
small_letter = refl

above : job_of (ended_line (spell "00078000000000000003")) ≡ none
unfolding job_of all_bytes is_capital_hex is_digit between number_from worth
above = refl

-- a part in which nobody was paid has no least, though 0 is told for it; and so has one behind it
unpaid_first : (both (report_of (bad ∷ [])) (report_of (paid (pos 7) ∷ paid (pos 5) ∷ []))).least ≡ pos 5
unfolding both report_of either_pay all_stops tally pays total chosen chosen_from
unpaid_first = refl

unpaid_second : (both (report_of (paid (negsuc 4) ∷ [])) (report_of (bad ∷ bad ∷ []))).largest ≡ negsuc 4
unfolding both report_of either_pay all_stops tally pays total chosen chosen_from
unpaid_second = refl

-- 46: more lines together; and a report that no lines can have come to
too_many : together (record { lines = 40000; bad = 40000; stops = λ s. 0; sum = pos 0; least = pos 0; largest = pos 0 })
    (record { lines = 25537; bad = 25537; stops = λ s. 0; sum = pos 0; least = pos 0; largest = pos 0 })
    ≡ without_sums many_lines
unfolding together addable possible payable is_zero all_stops
too_many = refl

not_possible : together no_report (record { lines = 1; bad = 2; stops = λ s. 0; sum = pos 0; least = pos 0; largest = pos 0 }) ≡ without_sums many_lines
unfolding together addable possible payable is_zero all_stops
not_possible = refl

-- ---- which reports are possible

-- so many lines, of which so many were bad and no other stopped, with this sum, this least and this largest
abbrev can : ℕ → ℕ → ℤ → ℤ → ℤ → Bool
can n b s l g = possible record { lines = n; bad = b; stops = λ s. 0; sum = s; least = l; largest = g }

-- nobody was paid: all three are 0
nobody : can 2 2 (pos 0) (pos 0) (pos 0) ≡ true
unfolding possible payable is_zero all_stops
nobody = refl

nobody_sum : can 2 2 (negsuc 0) (pos 0) (pos 0) ≡ false
unfolding possible payable is_zero all_stops
nobody_sum = refl

nobody_least : can 0 0 (pos 0) (negsuc 0) (pos 0) ≡ false
unfolding possible payable is_zero all_stops
nobody_least = refl

nobody_largest : can 0 0 (pos 0) (pos 0) (pos 1) ≡ false
unfolding possible payable is_zero all_stops
nobody_largest = refl

-- one was: all three are the same, and an int
one : can 1 0 (negsuc 2147483647) (negsuc 2147483647) (negsuc 2147483647) ≡ true
unfolding possible payable in_range all_stops
one = refl

one_large : can 1 0 (pos 2147483648) (pos 2147483648) (pos 2147483648) ≡ false
unfolding possible payable in_range all_stops
one_large = refl

one_other : can 1 0 (pos 6) (pos 5) (pos 7) ≡ false
unfolding possible payable in_range all_stops
one_other = refl

-- two were: the sum is that of the two
two : can 3 1 (pos 12) (pos 5) (pos 7) ≡ true
unfolding possible payable in_range all_stops
two = refl

two_other : can 3 1 (pos 13) (pos 5) (pos 7) ≡ false
unfolding possible payable in_range all_stops
two_other = refl

turned : can 2 0 (pos 12) (pos 7) (pos 5) ≡ false
unfolding possible payable in_range all_stops
turned = refl

-- three were, of -5, of 7, and of one from -5 to 7: the sum is -3 to 9
three_low : can 3 0 (negsuc 2) (negsuc 4) (pos 7) ≡ true
unfolding possible payable in_range all_stops
three_low = refl

three_lower : can 3 0 (negsuc 3) (negsuc 4) (pos 7) ≡ false
unfolding possible payable in_range all_stops
three_lower = refl

three_high : can 3 0 (pos 9) (negsuc 4) (pos 7) ≡ true
unfolding possible payable in_range all_stops
three_high = refl

three_higher : can 3 0 (pos 10) (negsuc 4) (pos 7) ≡ false
unfolding possible payable in_range all_stops
three_higher = refl

-- as many as there may be, and each the lowest
all_lowest : can 65536 0 (negsuc 140737488355327) (negsuc 2147483647) (negsuc 2147483647) ≡ true
unfolding possible payable in_range all_stops
all_lowest = refl
