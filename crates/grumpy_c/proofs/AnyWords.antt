-- Whatever stands in the words of three reports, forged ones too: it does not matter which two are combined first (R14.6).
use Rattle.std.specs.Prelude.{Ok, Err}
use lib.Dec.{eqb}
use lib.ListN.{length, get_or}
use mathlib.Core.Bool.{Bool, true, false, cond}
use mathlib.Core.List.{List}
use mathlib.Core.Option.{Option, none}
use mathlib.Core.Path.{◌≡◌, refl, sym, ap, ap₂, subst, ◌∙◌}
use native.Mathlib.Omega.{arith}
use Prim.Native.Nat.{ℕ, ◌≤◌}
use Rattle.language.specs.Combining.{all_stops, payable, possible, both, addable, Ending, no_report, without_sums, together, told_both, combined}
use Rattle.language.specs.Meaning.{is_zero}
use Rattle.language.specs.Numbers.{no_edition}
use Rattle.language.specs.Shift.{ShiftRefusal, sheet, many_lines, Report}
use Rattle.language.proofs.Shift.AnyOrder.{combined_assoc, both_possible}
use Rattle.language.proofs.Shift.Possible.{possible_so}
use Rattle.numbers.specs.declared.Refusal.{Refusal}
use Rattle.shift.specs.Combining.{ending_meant, told_in}
use Rattle.shift.specs.Meanings as Code
use Rattle.grumpy_c.specs.Combining.{ending_in, finished_in, told_of_both, CombinedC, combine_no_room, combine_told}
use Rattle.grumpy_c.specs.Shifts.{FINISH, told_number, report_words}
use Rattle.grumpy_c.specs.Words.{with_front}
use Rattle.grumpy_c.proofs.ToldCombined.{short_not}
use Rattle.grumpy_c.proofs.PartsWhole.{Readable, read_none, read_many, read_edition, words_back}

-- ---- what is told of two

read_told : (n : ℕ) → Readable (ending_meant (ending_in n))
unfolding ending_in
read_told n = go (eqb n 0) (eqb n 42)
  where
    go : (a b : Bool)
        → Readable (ending_meant (cond a (Ok false) (cond b (Err Refusal.NoEdition) (Ok true))))
    go true b = read_none
    go false true = read_edition
    go false false = read_many

-- sums that are possible, or a refusal without sums
data Tellable : Ending → Type 0 where
  tell_sums : {r : Report} → possible r ≡ true → Tellable record { told = none; report = r }
  tell_many : Tellable (without_sums many_lines)
  tell_edition : Tellable (without_sums (sheet no_edition))

together_tells : (r q : Report) → Tellable (together r q)
unfolding together
together_tells r q = go (addable r q) refl
  where
    go : (t : Bool) → addable r q ≡ t → Tellable (cond t (record { told = none; report = both r q }) (without_sums many_lines))
    go true e = tell_sums (both_possible r q e)
    go false e = tell_many

both_tell : {t u : Option ShiftRefusal} (r q : Report) → Readable t → Readable u → Tellable (told_both t u r q)
both_tell r q read_none read_none = together_tells r q
both_tell r q read_none read_many = tell_many
both_tell r q read_none read_edition = tell_edition
both_tell r q read_many read_none = tell_many
both_tell r q read_many read_many = tell_many
both_tell r q read_many read_edition = tell_edition
both_tell r q read_edition u = tell_edition

words_tell : (a b : List ℕ) → Tellable (told_of_both a b)
unfolding finished_in
words_tell a b = both_tell _ _ (read_told (get_or a 0 0)) (read_told (get_or b 0 0))

-- ---- the words that are left are read again as what was told

none_possible : possible no_report ≡ true
unfolding possible payable is_zero all_stops
none_possible = refl

told_again : (w : List ℕ) (n : ℕ) {e : Ending} → Tellable e → n ≡ told_number e.told
    → told_in (finished_in (with_front w (report_words n e.report))) ≡ e
told_again w n (tell_sums {r} p) m = words_back w n r (possible_so r p) read_none m
told_again w n tell_many m = words_back w n no_report (possible_so no_report none_possible) read_many m
told_again w n tell_edition m = words_back w n no_report (possible_so no_report none_possible) read_edition m

-- with room for all three
record Told (a b v v' : List ℕ) (n : ℕ) : Type 0 where
  number : n ≡ told_number (told_of_both a b).told
  words : v' ≡ with_front v (report_words n (told_of_both a b).report)

has_room : {a b v v' : List ℕ} {n : ℕ} → FINISH ≤ length a → FINISH ≤ length b → FINISH ≤ length v → CombinedC a b v v' n → Told a b v v' n
has_room {a} {b} {v} h k l (combine_no_room x e f) = short_not (length a) (length b) (length v) x h k l
has_room h k l (combine_told i j o m t) = record { number = m; words = t }

front_long : (v : List ℕ) (n : ℕ) (r : Report) → FINISH ≤ length (with_front v (report_words n r))
unfolding with_front report_words
front_long v n r = omega arith

left_long : {a b v v' : List ℕ} {n : ℕ} → Told a b v v' n → FINISH ≤ length v'
left_long {v = v} {n = n} x = subst (λ (w : List ℕ). FINISH ≤ length w) (sym x.words) (front_long v n _)

left_told : {a b v v' : List ℕ} {n : ℕ} → Told a b v v' n → told_in (finished_in v') ≡ told_of_both a b
left_told {a} {b} {v} {n = n} x = ap (λ (w : List ℕ). told_in (finished_in w)) x.words ∙ told_again v n (words_tell a b) x.number

-- the same number, and the same fifteen words over those that were there
pub any_first : {a b c v v' w w' u u' x x' : List ℕ} {n m k l : ℕ} → FINISH ≤ length a → FINISH ≤ length b → FINISH ≤ length c
    → FINISH ≤ length v → FINISH ≤ length w → FINISH ≤ length u → FINISH ≤ length x
    → CombinedC a b v v' n → CombinedC v' c w w' m → CombinedC b c u u' k → CombinedC a u' x x' l
    → (words : List ℕ) × (m ≡ l) × (w' ≡ with_front w words) × (x' ≡ with_front x words)
any_first {a} {b} {c} {v' = v'} {w = w} {u' = u'} {x = x} {m = m} ha hb hc hv hw hu hx ab ab-c bc a-bc =
    let p = has_room ha hb hv ab in
    let q = has_room hb hc hu bc in
    let r = has_room (left_long p) hc hw ab-c in
    let s = has_room ha (left_long q) hx a-bc in
    let first : told_of_both v' c ≡ combined (told_of_both a b) (told_in (finished_in c)) =
    ap (λ (e : Ending). combined e (told_in (finished_in c))) (left_told p) in
    let second : told_of_both a u' ≡ combined (told_in (finished_in a)) (told_of_both b c) = ap (combined (told_in (finished_in a))) (left_told q) in
    let same : told_of_both a u' ≡ told_of_both v' c =
    second ∙ sym (combined_assoc (told_in (finished_in a)) (told_in (finished_in b)) (told_in (finished_in c))) ∙ sym first in
    let number = r.number ∙ sym (s.number ∙ ap (λ (e : Ending). told_number e.told) same) in (
      report_words m (told_of_both v' c).report,
      number,
      r.words,
      s.words ∙ ap₂ (λ (i : ℕ) (e : Ending). with_front x (report_words i e.report)) (sym number) same,
    )
