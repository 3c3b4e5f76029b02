-- The lines of a report for machines, and the text that they make.
use lib.IntN.{ℤ}
use lib.ListN.{get_or}
use mathlib.Core.Bool.{Bool, true, false}
use mathlib.Core.List.{List, [], ◌∷◌, ◌++◌, append_assoc, append-nil}
use mathlib.Core.Path.{◌≡◌, refl, sym, ap, ◌∙◌}
use Prim.Native.Nat.{ℕ}
use Rattle.language.specs.Tokens.{spell}
use Rattle.page.specs.Lines.{feeds}
use Rattle.page.specs.Text.{decimal_of}
use Rattle.tally.specs.declared.sums.Sums.{Sums}
use Rattle.wording.specs.Fields.{value_line, number_line, signed_line}
use Rattle.records.specs.Told.{sheet_line, well_lines}
use Rattle.records.specs.Machines.{outcome_lines, first_lines, second_lines}
use Rattle.records.specs.Machines.{third_lines, stop_lines, count_lines, amount_lines, shift_lines, together_lines, combined_lines}
use Rattle.wording.specs.Fields.{name_words}
use Rattle.wording.specs.Values.{signed_words}
use Rattle.records.proofs.LinesRead.{Line, line, text_of, Clean}
use Rattle.records.proofs.NumbersRead.{decimal_quiet, signed_quiet, name_quiet}

abbrev pub sum_rows : Sums → List Line
sum_rows s =
    line (spell "lines ") (decimal_of s.lines)
    ∷ line (spell "bad ") (decimal_of s.bad)
    ∷ line (spell "stopped-50 ") (decimal_of (get_or s.stops 0 0))
    ∷ line (spell "stopped-51 ") (decimal_of (get_or s.stops 1 0))
    ∷ line (spell "stopped-52 ") (decimal_of (get_or s.stops 2 0))
    ∷ line (spell "stopped-53 ") (decimal_of (get_or s.stops 3 0))
    ∷ line (spell "stopped-54 ") (decimal_of (get_or s.stops 4 0))
    ∷ line (spell "stopped-55 ") (decimal_of (get_or s.stops 5 0))
    ∷ line (spell "stopped-56 ") (decimal_of (get_or s.stops 6 0))
    ∷ line (spell "stopped-57 ") (decimal_of (get_or s.stops 7 0))
    ∷ line (spell "stopped-58 ") (decimal_of (get_or s.stops 8 0))
    ∷ line (spell "paid ") (decimal_of s.paid)
    ∷ line (spell "sum ") (signed_words s.sum)
    ∷ line (spell "least ") (signed_words s.least)
    ∷ line (spell "largest ") (signed_words s.largest)
    ∷ []

abbrev pub well_rows : List Line → List Line
well_rows ls = line (spell "number ") (spell "0") ∷ line (spell "meaning ") (spell "all is well") ∷ ls

abbrev pub over_rows : List Line → List Line
over_rows ls =
    line (spell "number ") (spell "46")
    ∷ line (spell "meaning ") (spell "more than 65536 lines together, and so no sums")
    ∷ ls

abbrev pub shift_rows : (status : ℕ) (file : List ℕ) (allowance : ℕ) → Sums → List Line
shift_rows status file allowance s =
    line (spell "status ") (decimal_of status)
    ∷ line (spell "sheet ") (name_words file)
    ∷ well_rows (line (spell "allowance ") (decimal_of allowance) ∷ sum_rows s)

abbrev pub together_rows : Bool → List Line → List Line
together_rows true ls = over_rows ls
together_rows false ls = well_rows ls

abbrev pub combined_rows : (status : ℕ) (over : Bool) → Sums → List Line
combined_rows status over s = line (spell "status ") (decimal_of status) ∷ together_rows over (sum_rows s)

-- ---- no line feed in them

sum_clean : (s : Sums) → Clean (sum_rows s)
unfolding feeds
sum_clean s =
    let n = s.stops in (
      refl,
      decimal_quiet s.lines,
      (
        refl,
        decimal_quiet s.bad,
        (
          refl,
          decimal_quiet (get_or n 0 0),
          (
            refl,
            decimal_quiet (get_or n 1 0),
            (
              refl,
              decimal_quiet (get_or n 2 0),
              (
                refl,
                decimal_quiet (get_or n 3 0),
                (
                  refl,
                  decimal_quiet (get_or n 4 0),
                  (
                    refl,
                    decimal_quiet (get_or n 5 0),
                    (
                      refl,
                      decimal_quiet (get_or n 6 0),
                      (
                        refl,
                        decimal_quiet (get_or n 7 0),
                        (
                          refl,
                          decimal_quiet (get_or n 8 0),
                          (
                            refl,
                            decimal_quiet s.paid,
                            (
                              refl,
                              signed_quiet s.sum,
                              (
                                refl,
                                signed_quiet s.least,
                                (refl, signed_quiet s.largest, tt),
                              ),
                            ),
                          ),
                        ),
                      ),
                    ),
                  ),
                ),
              ),
            ),
          ),
        ),
      ),
    )

pub shift_clean : (status : ℕ) (file : List ℕ) (allowance : ℕ) (s : Sums) → Clean (shift_rows status file allowance s)
unfolding feeds
shift_clean status file allowance s = (
  refl,
  decimal_quiet status,
  (refl, name_quiet file, (refl, refl, (refl, refl, (refl, decimal_quiet allowance, sum_clean s)))),
)

pub combined_clean : (status : ℕ) (over : Bool) (s : Sums) → Clean (combined_rows status over s)
unfolding feeds
combined_clean status true s = (refl, decimal_quiet status, (refl, refl, (refl, refl, sum_clean s)))
combined_clean status false s = (refl, decimal_quiet status, (refl, refl, (refl, refl, sum_clean s)))

-- ---- their text

record Is (t : List ℕ) (ls : List Line) : Type 0 where
  is : t ≡ text_of ls

put_value : (name v : List ℕ) {t : List ℕ} {ls : List Line} → Is t ls
    → Is (value_line name v ++ t) (line (name ++ spell " ") v ∷ ls)
unfolding text_of
put_value name v {t} {ls} i = record {
  is =
      append_assoc (name ++ spell " " ++ v) (spell "\n") t
      ∙ append_assoc (name ++ spell " ") v (10 ∷ t)
      ∙ ap (λ (u : List ℕ). (name ++ spell " ") ++ (v ++ (10 ∷ u))) i.is;
}

put_number : (name : List ℕ) (n : ℕ) {t : List ℕ} {ls : List Line} → Is t ls
    → Is (number_line name n ++ t) (line (name ++ spell " ") (decimal_of n) ∷ ls)
unfolding number_line
put_number name n i = put_value name (decimal_of n) i

put_signed : (name : List ℕ) (z : ℤ) {t : List ℕ} {ls : List Line} → Is t ls
    → Is (signed_line name z ++ t) (line (name ++ spell " ") (signed_words z) ∷ ls)
unfolding signed_line
put_signed name z i = put_value name (signed_words z) i

put_sheet : (file : List ℕ) {t : List ℕ} {ls : List Line} → Is t ls
    → Is (sheet_line file ++ t) (line (spell "sheet ") (name_words file) ∷ ls)
unfolding sheet_line
put_sheet file i = put_value (spell "sheet") (name_words file) i

put_well : {t : List ℕ} {ls : List Line} → Is t ls → Is (well_lines ++ t) (well_rows ls)
unfolding well_lines text_of
put_well {t} {ls} i = record { is = ap (λ (u : List ℕ). well_lines ++ u) i.is }

put_together : (over : Bool) {t : List ℕ} {ls : List Line} → Is t ls → Is (together_lines over ++ t) (together_rows over ls)
unfolding together_lines text_of
put_together true i = record { is = ap (λ (u : List ℕ). together_lines true ++ u) i.is }
put_together false i = put_well i

none_is : Is [] []
unfolding text_of
none_is = record { is = refl }

three : (a b c t : List ℕ) → (a ++ b ++ c) ++ t ≡ a ++ (b ++ (c ++ t))
three a b c t = simp append_assoc

four : (a b c e t : List ℕ) → (a ++ b ++ c ++ e) ++ t ≡ a ++ (b ++ (c ++ (e ++ t)))
four a b c e t = simp append_assoc

moved : {t u : List ℕ} {ls : List Line} → t ≡ u → Is u ls → Is t ls
moved e i = record { is = e ∙ i.is }

put_three : (x y z : List ℕ) (m n k : ℕ) {t : List ℕ} {ls : List Line} → Is t ls
    → Is ((number_line x m ++ number_line y n ++ number_line z k) ++ t)
    (line (x ++ spell " ") (decimal_of m) ∷ line (y ++ spell " ") (decimal_of n) ∷ line (z ++ spell " ") (decimal_of k) ∷ ls)
put_three x y z m n k {t} i =
    moved (three (number_line x m) (number_line y n) (number_line z k) t) (put_number x m (put_number y n (put_number z k i)))

put_sums : (s : Sums) → Is (count_lines s ++ (amount_lines s ++ [])) (sum_rows s)
unfolding first_lines second_lines third_lines stop_lines count_lines amount_lines
put_sums s =
    let n = s.stops in
    let paid = number_line (spell "paid") s.paid in
    let rest = amount_lines s ++ [] in
    moved (four (number_line (spell "lines") s.lines) (number_line (spell "bad") s.bad) (stop_lines n) paid rest)
    (put_number (spell "lines") s.lines
    (put_number (spell "bad") s.bad
    (moved (three (first_lines n) (second_lines n) (third_lines n) (paid ++ rest))
    (put_three (spell "stopped-50") (spell "stopped-51") (spell "stopped-52") (get_or n 0 0) (get_or n 1 0) (get_or n 2 0)
    (put_three (spell "stopped-53") (spell "stopped-54") (spell "stopped-55") (get_or n 3 0) (get_or n 4 0) (get_or n 5 0)
    (put_three (spell "stopped-56") (spell "stopped-57") (spell "stopped-58") (get_or n 6 0) (get_or n 7 0) (get_or n 8 0)
    (put_number (spell "paid") s.paid
    (moved (three (signed_line (spell "sum") s.sum) (signed_line (spell "least") s.least) (signed_line (spell "largest") s.largest) [])
    (put_signed (spell "sum") s.sum
    (put_signed (spell "least") s.least
    (put_signed (spell "largest") s.largest none_is)))))))))))

six : (a b c e f g : List ℕ) → a ++ b ++ c ++ e ++ f ++ g ≡ a ++ (b ++ (c ++ (e ++ (f ++ (g ++ [])))))
six a b c e f g = sym (append-nil (a ++ b ++ c ++ e ++ f ++ g)) ∙ simp append_assoc

pub shift_text : (status : ℕ) (file : List ℕ) (allowance : ℕ) (s : Sums)
    → shift_lines status file allowance false s ≡ text_of (shift_rows status file allowance s)
unfolding shift_lines outcome_lines
shift_text status file allowance s =
    (moved
    (six (number_line (spell "status") status) (sheet_line file) well_lines (number_line (spell "allowance") allowance) (count_lines s)
    (amount_lines s))
    (put_number (spell "status") status
    (put_sheet file (put_well (put_number (spell "allowance") allowance (put_sums s)))))
    ).is

fours : (a b c e : List ℕ) → a ++ b ++ c ++ e ≡ a ++ (b ++ (c ++ (e ++ [])))
fours a b c e = sym (append-nil (a ++ b ++ c ++ e)) ∙ simp append_assoc

pub combined_text : (status : ℕ) (over : Bool) (s : Sums) → combined_lines status over s ≡ text_of (combined_rows status over s)
unfolding combined_lines
combined_text status over s =
    (moved (fours (number_line (spell "status") status) (together_lines over) (count_lines s) (amount_lines s))
    (put_number (spell "status") status (put_together over (put_sums s)))).is
