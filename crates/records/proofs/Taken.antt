-- What is read of a report, from what is read of its lines: a law for each way through the code.
use lib.Dec.{eqb}
use lib.IntN.{ℤ, pos}
use lib.ListN.{length, take}
use lib.Seq.{take-length}
use mathlib.Core.Bool.{Bool, true, false, ◌||◌}
use mathlib.Core.List.{List}
use mathlib.Core.Path.{◌≡◌, refl, sym, ap, ◌∙◌}
use borrow.Author.Tests.{ne_eqb}
use native.Mathlib.Omega.{arith}
use Prim.Native.Nat.{ℕ, ◌+◌}
use Rattle.language.specs.Combining.{paid_lines, possible}
use Rattle.language.specs.Sizes.{LINES}
use Rattle.page.specs.Fields.{count_in, amount_named}
use Rattle.page.specs.Lines.{feeds, behind}
use Rattle.tally.specs.Stands.{report_in}
use Rattle.tally.specs.declared.sums.Sums.{Sums}
use Rattle.std.specs.Prelude.{Option, Some, None, unwrap_or}
use Rattle.records.specs.Readings.{or_many, count_told, or_much, amount_told, nine_told, sums_told}
use Rattle.records.specs.Readings.{whole, full}

-- ---- one value

pub a_count : (name t : List ℕ) {a : Option ℕ} → a ≡ count_in LINES name t → unwrap_or a 65537 ≡ count_told name t
unfolding count_told
a_count name t {a} e = or_one a ∙ ap or_many e
  where
    or_one : (o : Option ℕ) → unwrap_or o 65537 ≡ or_many o
    or_one None = refl
    or_one (Some n) = refl

pub an_amount : (name t : List ℕ) {a : Option ℤ} → a ≡ amount_named name t
    → unwrap_or a (pos 4611686018427387904) ≡ amount_told name t
unfolding amount_told
an_amount name t {a} e = or_one a ∙ ap or_much e
  where
    or_one : (o : Option ℤ) → unwrap_or o (pos 4611686018427387904) ≡ or_much o
    or_one None = refl
    or_one (Some z) = refl

-- ---- all of them

pub all_sums : (t : List ℕ) {lines bad paid : ℕ} {stops : List ℕ} {sum least largest : ℤ}
    → lines ≡ (sums_told t).lines → bad ≡ (sums_told t).bad → stops ≡ nine_told t → paid ≡ (sums_told t).paid
    → sum ≡ (sums_told t).sum → least ≡ (sums_told t).least → largest ≡ (sums_told t).largest
    → ◌≡◌ {A = Sums} record { lines = lines; bad = bad; stops = stops; paid = paid; sum = sum; least = least; largest = largest }
    (sums_told t)
all_sums t a b c d e f g =
    λ i. record { lines = a i; bad = b i; stops = c i; paid = d i; sum = e i; least = f i; largest = g i }

module _ (s : Sums) {b : Bool} (e : b ≡ possible (report_in s)) where
  pub is_whole : b ≡ true → {n : ℕ} → n ≡ paid_lines (report_in s) → eqb n s.paid ≡ whole s
  unfolding whole
  is_whole h k = let p : possible (report_in s) ≡ true = sym e ∙ h in rw (p, k) refl

  pub not_whole : b ≡ false → false ≡ whole s
  unfolding whole
  not_whole h = let p : possible (report_in s) ≡ false = sym e ∙ h in rw p refl

-- ---- as many lines as there have to be

module _ (t : List ℕ) (last : ℕ) (e : last + behind (take (length t) t) ≡ length t) where
  left : last + behind t ≡ length t
  left = ap (λ (u : List ℕ). last + behind u) (sym (take-length t)) ∙ e

  pub is_ended : {lines : ℕ} → lines ≡ feeds (take (length t) t) → last ≡ length t
      → {r : Bool} → r ≡ (eqb lines 18 || eqb lines 20) → r ≡ full t
  unfolding full
  is_ended k h q =
      let z : behind t ≡ 0 = omega (arith, left) in
      let m = k ∙ ap feeds (take-length t) in
      q ∙ rw (z, m) refl

  pub not_ended : (last ≡ length t → ⊥) → false ≡ full t
  unfolding full
  not_ended h =
      let z : eqb (behind t) 0 ≡ false = ne_eqb (behind t) 0 (λ (b : behind t ≡ 0). h (omega (arith, left))) in
      rw z refl
