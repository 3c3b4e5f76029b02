-- What is written of a shift for machines is read as what was written.
use lib.Dec.{eqb}
use lib.IntN.{ℤ, pos, negsuc, nat_abs}
use lib.ListN.{length, get_or, take, drop}
use lib.Seq.{take_all, take-append_seam}
use lib.Signed.{mag}
use mathlib.Core.Bool.{Bool, true, false}
use mathlib.Core.List.{List, [], ◌∷◌}
use mathlib.Core.Logic.{◌⊎◌, inl, inr}
use mathlib.Core.Option.{some}
use mathlib.Core.Path.{◌≡◌, refl, ap, subst, ◌∙◌}
use borrow.Author.Tests.{eqb-true}
use native.Mathlib.Omega.{arith}
use Prim.Native.Nat.{ℕ, ◌+◌, ◌-◌, ◌≤◌}
use Rattle.language.proofs.Text.Choices.{and_both}
use Rattle.language.proofs.Shift.Possible.{possible_so, least_size, largest_size}
use Rattle.language.specs.Combining.{all_stops, paid_lines, possible}
use Rattle.language.specs.Sizes.{LARGEST, LINES}
use Rattle.language.specs.Text.{between, is_digit, worth, number_from}
use Rattle.language.specs.Tokens.{spell}
use Rattle.page.specs.Amounts.{all_digits, is_number, number_up_to, AMOUNT}
use Rattle.std.specs.Borrow.{MutBor}
use Rattle.page.specs.Text.{decimal_of, Adds, Begins, Writes}
use Rattle.page.specs.declared.pages.Page.{Page}
use Rattle.tally.specs.Stands.{report_in}
use Rattle.tally.specs.declared.sums.Sums.{Sums}
use Rattle.records.specs.Machines.{shift_lines, combined_lines}
use Rattle.std.specs.Prelude.{Some, Result, Ok}
use Rattle.records.specs.Readings.{count_told, amount_told, nine_told, sums_told, is_told, over_told, number_told}
use Rattle.records.specs.Readings.{whole, full, reading_in}
use Rattle.wording.specs.Values.{signed_words}
use Rattle.records.specs.declared.readings.Reading.{Reading}
use Rattle.records.proofs.LinesRead.{Line, line, text_of, Clean, apart, same, look, found, as_many, none_behind}
use Rattle.records.proofs.NumbersRead.{count_read, amount_read}
use Rattle.records.proofs.Rows.{sum_rows, shift_rows, combined_rows}
use Rattle.records.proofs.Rows.{shift_clean, combined_clean, shift_text, combined_text}

-- sums of a shift: they can be those of one, as many were paid as is told, and the sum is one of ints
pub record Writable (s : Sums) : Type 0 where
  pub whole : whole s ≡ true
  pub nine : length s.stops ≡ 9
  pub near : nat_abs s.sum ≤ AMOUNT

-- ---- how large the numbers are

close : (z : ℤ) → mag z ≤ LARGEST → nat_abs z ≤ AMOUNT
close (pos n) h = omega arith
close (negsuc n) h = omega arith

abbrev Few : ℕ → Type 0
Few n = n ≤ LINES

module _ (s : Sums) (w : whole s ≡ true) where
  told : (possible (report_in s) ≡ true) × (eqb (paid_lines (report_in s)) s.paid ≡ true)
  unfolding whole
  told = and_both (possible (report_in s)) (eqb (paid_lines (report_in s)) s.paid) w

  parts : (s.lines ≤ LINES) × (s.bad + all_stops (report_in s).stops ≤ s.lines) × (mag s.least ≤ LARGEST) × (mag s.largest ≤ LARGEST)
  parts =
      let p = possible_so (report_in s) told.0 in
      (p.lines, p.others, least_size p, largest_size p)

  stops_sum : all_stops (report_in s).stops
      ≡ get_or s.stops 0 0
      + (get_or s.stops 1 0
      + (get_or s.stops 2 0
      + (get_or s.stops 3 0
      + (get_or s.stops 4 0
      + (get_or s.stops 5 0 + (get_or s.stops 6 0 + (get_or s.stops 7 0 + get_or s.stops 8 0)))))))
  unfolding all_stops
  stops_sum = refl

  few : Few (get_or s.stops 0 0) × Few (get_or s.stops 1 0) × Few (get_or s.stops 2 0) × Few (get_or s.stops 3 0)
      × Few (get_or s.stops 4 0) × Few (get_or s.stops 5 0) × Few (get_or s.stops 6 0) × Few (get_or s.stops 7 0)
      × Few (get_or s.stops 8 0) × Few s.bad × Few s.paid
  few =
      let a = parts.0 in
      let b = parts.1 in
      let p : s.lines - (s.bad + all_stops (report_in s).stops) ≡ s.paid =
      eqb-true (paid_lines (report_in s)) s.paid told.1 in
      let q = stops_sum in (
        omega arith,
        omega arith,
        omega arith,
        omega arith,
        omega arith,
        omega arith,
        omega arith,
        omega arith,
        omega arith,
        omega arith,
        omega arith,
      )

-- ---- nine counts

nine_are : (l : List ℕ) → length l ≡ 9
    → (get_or l 0 0 ∷ get_or l 1 0 ∷ get_or l 2 0 ∷ get_or l 3 0 ∷ get_or l 4 0 ∷ get_or l 5 0 ∷ get_or l 6 0 ∷ get_or l 7 0 ∷ get_or l 8 0 ∷ []) ≡ l
nine_are (a0 ∷ a1 ∷ a2 ∷ a3 ∷ a4 ∷ a5 ∷ a6 ∷ a7 ∷ a8 ∷ []) h = refl
nine_are [] h = absurd (omega arith)
nine_are (a0 ∷ []) h = absurd (omega arith)
nine_are (a0 ∷ a1 ∷ []) h = absurd (omega arith)
nine_are (a0 ∷ a1 ∷ a2 ∷ []) h = absurd (omega arith)
nine_are (a0 ∷ a1 ∷ a2 ∷ a3 ∷ []) h = absurd (omega arith)
nine_are (a0 ∷ a1 ∷ a2 ∷ a3 ∷ a4 ∷ []) h = absurd (omega arith)
nine_are (a0 ∷ a1 ∷ a2 ∷ a3 ∷ a4 ∷ a5 ∷ []) h = absurd (omega arith)
nine_are (a0 ∷ a1 ∷ a2 ∷ a3 ∷ a4 ∷ a5 ∷ a6 ∷ []) h = absurd (omega arith)
nine_are (a0 ∷ a1 ∷ a2 ∷ a3 ∷ a4 ∷ a5 ∷ a6 ∷ a7 ∷ []) h = absurd (omega arith)
nine_are (a0 ∷ a1 ∷ a2 ∷ a3 ∷ a4 ∷ a5 ∷ a6 ∷ a7 ∷ a8 ∷ a9 ∷ l) h = absurd (omega arith)

-- ---- a text of lines that has the sums

module _ (ls : List Line) (c : Clean ls) where
  counted : (name : List ℕ) {n : ℕ} → n ≤ LINES → look name ls ≡ some (decimal_of n) → count_told name (text_of ls) ≡ n
  unfolding count_told
  counted name {n} h e = rw (found name ls c e, count_read LINES n h) refl

  amounted : (name : List ℕ) {z : ℤ} → nat_abs z ≤ AMOUNT → look name ls ≡ some (signed_words z) → amount_told name (text_of ls) ≡ z
  unfolding amount_told
  amounted name {z} h e = rw (found name ls c e, amount_read z h) refl

-- what is looked for is there
pub record Tells (ls : List Line) (s : Sums) : Type 0 where
  pub clean : Clean ls
  pub lines : look (spell "lines ") ls ≡ some (decimal_of s.lines)
  pub bad : look (spell "bad ") ls ≡ some (decimal_of s.bad)
  pub stop0 : look (spell "stopped-50 ") ls ≡ some (decimal_of (get_or s.stops 0 0))
  pub stop1 : look (spell "stopped-51 ") ls ≡ some (decimal_of (get_or s.stops 1 0))
  pub stop2 : look (spell "stopped-52 ") ls ≡ some (decimal_of (get_or s.stops 2 0))
  pub stop3 : look (spell "stopped-53 ") ls ≡ some (decimal_of (get_or s.stops 3 0))
  pub stop4 : look (spell "stopped-54 ") ls ≡ some (decimal_of (get_or s.stops 4 0))
  pub stop5 : look (spell "stopped-55 ") ls ≡ some (decimal_of (get_or s.stops 5 0))
  pub stop6 : look (spell "stopped-56 ") ls ≡ some (decimal_of (get_or s.stops 6 0))
  pub stop7 : look (spell "stopped-57 ") ls ≡ some (decimal_of (get_or s.stops 7 0))
  pub stop8 : look (spell "stopped-58 ") ls ≡ some (decimal_of (get_or s.stops 8 0))
  pub paid : look (spell "paid ") ls ≡ some (decimal_of s.paid)
  pub sum : look (spell "sum ") ls ≡ some (signed_words s.sum)
  pub least : look (spell "least ") ls ≡ some (signed_words s.least)
  pub largest : look (spell "largest ") ls ≡ some (signed_words s.largest)

module _ {ls : List Line} {s : Sums} (t : Tells ls s) (w : Writable s) where
  stops_back : nine_told (text_of ls) ≡ s.stops
  stops_back =
      let f = few s w.whole in
      (λ i.
      counted ls t.clean (spell "stopped-50 ") f.0 t.stop0 i
      ∷ counted ls t.clean (spell "stopped-51 ") f.1 t.stop1 i
      ∷ counted ls t.clean (spell "stopped-52 ") f.2 t.stop2 i
      ∷ counted ls t.clean (spell "stopped-53 ") f.3 t.stop3 i
      ∷ counted ls t.clean (spell "stopped-54 ") f.4 t.stop4 i
      ∷ counted ls t.clean (spell "stopped-55 ") f.5 t.stop5 i
      ∷ counted ls t.clean (spell "stopped-56 ") f.6 t.stop6 i
      ∷ counted ls t.clean (spell "stopped-57 ") f.7 t.stop7 i
      ∷ counted ls t.clean (spell "stopped-58 ") f.8 t.stop8 i
      ∷ [])
      ∙ nine_are s.stops w.nine

  sums_back : sums_told (text_of ls) ≡ s
  sums_back =
      let f = few s w.whole in
      let p = parts s w.whole in
      λ i. record {
        lines = counted ls t.clean (spell "lines ") p.0 t.lines i;
        bad = counted ls t.clean (spell "bad ") f.9 t.bad i;
        stops = stops_back i;
        paid = counted ls t.clean (spell "paid ") f.10 t.paid i;
        sum = amounted ls t.clean (spell "sum ") w.near t.sum i;
        least = amounted ls t.clean (spell "least ") (close s.least p.2) t.least i;
        largest = amounted ls t.clean (spell "largest ") (close s.largest p.3) t.largest i;
      }

-- ---- what comes of it

-- it is read as a report, which says whether there was a line too many, and has the sums
abbrev pub Back : Result Reading Reading → (many : Bool) → Sums → Type 0
Back r many s = r ≡ Ok (record { over = many; sums = s })

module _ (l : Line) (ls : List Line) {s : Sums} (t : Tells (l ∷ ls) s) (w : Writable s) where
  numbered : {v : List ℕ} {n : ℕ} → look (spell "number ") (l ∷ ls) ≡ some v → number_up_to 99 v ≡ Some n
      → number_told (text_of (l ∷ ls)) ≡ Some n
  numbered e h = rw (found (spell "number ") (l ∷ ls) t.clean e) h

  back : (n : ℕ) → number_told (text_of (l ∷ ls)) ≡ Some n → is_told (Some n) ≡ true → full (text_of (l ∷ ls)) ≡ true
      → Back (reading_in (text_of (l ∷ ls))) (over_told (Some n)) s
  unfolding reading_in
  back n e h f = rw (f, e, sums_back t w, h, w.whole) refl

is_full : (l : Line) (ls : List Line) → Clean (l ∷ ls) → (length (l ∷ ls) ≡ 18) ⊎ (length (l ∷ ls) ≡ 20) → full (text_of (l ∷ ls)) ≡ true
unfolding full
is_full l ls c (inl e) = rw (none_behind l ls, as_many (l ∷ ls) c, e) refl
is_full l ls c (inr e) = rw (none_behind l ls, as_many (l ∷ ls) c, e) refl

module _ (status : ℕ) (file : List ℕ) (allowance : ℕ) (s : Sums) where
  shift_tells : Tells (shift_rows status file allowance s) s
  unfolding look apart same
  shift_tells = record {
    clean = shift_clean status file allowance s;
    lines = refl;
    bad = refl;
    stop0 = refl;
    stop1 = refl;
    stop2 = refl;
    stop3 = refl;
    stop4 = refl;
    stop5 = refl;
    stop6 = refl;
    stop7 = refl;
    stop8 = refl;
    paid = refl;
    sum = refl;
    least = refl;
    largest = refl;
  }

  pub shift_back : Writable s → Back (reading_in (shift_lines status file allowance false s)) false s
  unfolding look apart same number_up_to number_from worth is_number all_digits is_digit between
  shift_back w =
      rw (shift_text status file allowance s)
      (back _ _ shift_tells w 0 (numbered _ _ shift_tells w refl refl) refl (is_full _ _ (shift_clean status file allowance s) (inr refl)))

-- whatever stands in the three lines before them
module _ (a v m : List ℕ) (s : Sums) where
  abbrev rows : List Line
  rows = line (spell "status ") a ∷ line (spell "number ") v ∷ line (spell "meaning ") m ∷ sum_rows s

  behind_three : Clean rows → Tells rows s
  unfolding look apart same
  behind_three c = record {
    clean = c;
    lines = refl;
    bad = refl;
    stop0 = refl;
    stop1 = refl;
    stop2 = refl;
    stop3 = refl;
    stop4 = refl;
    stop5 = refl;
    stop6 = refl;
    stop7 = refl;
    stop8 = refl;
    paid = refl;
    sum = refl;
    least = refl;
    largest = refl;
  }

combined_tells : (status : ℕ) (over : Bool) (s : Sums) → Tells (combined_rows status over s) s
combined_tells status true s = behind_three _ _ _ s (combined_clean status true s)
combined_tells status false s = behind_three _ _ _ s (combined_clean status false s)

pub combined_back : (status : ℕ) (over : Bool) (s : Sums) → Writable s → Back (reading_in (combined_lines status over s)) over s
unfolding look apart same number_up_to number_from worth is_number all_digits is_digit between
combined_back status true s w =
    let k = combined_tells status true s in
    rw (combined_text status true s)
    (back _ _ k w 46 (numbered _ _ k w refl refl) refl (is_full _ _ (combined_clean status true s) (inl refl)))
combined_back status false s w =
    let k = combined_tells status false s in
    rw (combined_text status false s)
    (back _ _ k w 0 (numbered _ _ k w refl refl) refl (is_full _ _ (combined_clean status false s) (inl refl)))

-- ---- what stands in the lent bytes

-- a text that has room is there, as many bytes as are told
pub written : {t entry exit : List ℕ} {n : ℕ} → Adds t entry exit 0 n → length t ≤ length entry → take n exit ≡ t
written {t} {entry} {exit} {n} a h =
    let e : n ≡ length t = omega (arith, a.ends) in
    rw (e, a.text, take_all (length entry) t h) (take-append_seam t (drop (0 + length t) entry))

pub shift_read : (status : ℕ) (file : List ℕ) (allowance : ℕ) (s : Sums) {entry exit : List ℕ} {n : ℕ}
    → Adds (shift_lines status file allowance false s) entry exit 0 n → length (shift_lines status file allowance false s) ≤ length entry
    → Writable s → Back (reading_in (take n exit)) false s
shift_read status file allowance s a h w = rw (written a h) (shift_back status file allowance s w)

pub combined_read : (status : ℕ) (over : Bool) (s : Sums) {entry exit : List ℕ} {n : ℕ}
    → Adds (combined_lines status over s) entry exit 0 n → length (combined_lines status over s) ≤ length entry
    → Writable s → Back (reading_in (take n exit)) over s
combined_read status over s a h w = rw (written a h) (combined_back status over s w)

-- ---- the same of a page, which is what `machines::shift` and `combined` write on

-- what is put on a page with nothing on it is its text, where the lent bytes have room
pub on_page : {t : List ℕ} {lent : MutBor (List ℕ)} {p q : Page} → Begins lent p → Writes t p q → length t ≤ length lent.now
    → take q.at q.out.now ≡ t
on_page {t} {lent} {p} {q} b w h =
    written (subst (λ (n : ℕ). Adds t p.out.now q.out.now n q.at) b.starts w.adds) (omega (arith, ap length b.bytes, h))

pub shift_page_read : (status : ℕ) (file : List ℕ) (allowance : ℕ) (s : Sums) {lent : MutBor (List ℕ)} {p q : Page} → Begins lent p
    → Writes (shift_lines status file allowance false s) p q
    → length (shift_lines status file allowance false s) ≤ length lent.now → Writable s → Back (reading_in (take q.at q.out.now)) false s
shift_page_read status file allowance s b p h w = rw (on_page b p h) (shift_back status file allowance s w)

pub combined_page_read : (status : ℕ) (over : Bool) (s : Sums) {lent : MutBor (List ℕ)} {p q : Page} → Begins lent p
    → Writes (combined_lines status over s) p q
    → length (combined_lines status over s) ≤ length lent.now → Writable s → Back (reading_in (take q.at q.out.now)) over s
combined_page_read status over s b p h w = rw (on_page b p h) (combined_back status over s w)
