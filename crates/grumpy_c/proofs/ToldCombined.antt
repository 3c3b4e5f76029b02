-- Reports of a shift in words: what is read of the parts of one makes the whole, and how two of them are told together.
use Rattle.std.specs.Prelude.{Ok, Err}
use lib.IntN.{ℤ}
use lib.ListN.{length, get_or}
use mathlib.Core.Bool.{true, false}
use mathlib.Core.List.{List}
use mathlib.Core.Logic.{◌⊎◌, inl, inr}
use mathlib.Core.Path.{◌≡◌, refl, sym, ap, ap₂, ◌∙◌}
use mir.Facts.{to_z-of_z}
use mir.Syntax.{w64}
use mir.Val.{to_z, of_z, SFits}
use native.Mathlib.Omega.{arith}
use Prim.Native.Nat.{ℕ, ◌≤◌, ◌<◌}
use borrow.Author.Tests.{eq-eqb, ne_eqb}
use Rattle.language.specs.Combining.{Ending, combined}
use Rattle.numbers.specs.declared.Refusal.{Refusal}
use Rattle.tally.specs.Stands.{report_in}
use Rattle.tally.specs.declared.sums.Sums.{Sums}
use Rattle.shift.specs.Combining.{ending_meant, told_in, Combine}
use Rattle.shift.specs.declared.Finished.{Finished}
use Rattle.shift.specs.Meanings as Code
use Rattle.grumpy_c.specs.Combining.{capped, ending_in, nine_in, counts_in, finished_in, told_of_both, CombinedC, combine_no_room, combine_told}
use Rattle.grumpy_c.specs.Shifts.{FINISH, told_number, ending_number, report_words}
use Rattle.grumpy_c.specs.Words.{with_front}

-- ---- from the parts of it

module _ (w : List ℕ) (lines bad : ℕ) (stops : List ℕ) (sum least largest : ℤ) where
  pub counts_read : lines ≡ capped (get_or w 1 0) → bad ≡ capped (get_or w 2 0) → stops ≡ nine_in w → SFits w64 sum → sum ≡ to_z w64 (get_or w 12 0)
      → SFits w64 least → least ≡ to_z w64 (get_or w 13 0) → SFits w64 largest → largest ≡ to_z w64 (get_or w 14 0)
      → ◌≡◌ {A = Sums}
      record {
        lines = lines;
        bad = bad;
        stops = stops;
        paid = 0;
        sum = to_z w64 (of_z w64 sum);
        least = to_z w64 (of_z w64 least);
        largest = to_z w64 (of_z w64 largest);
      }
      (counts_in w)
  counts_read a b c x e y f z g = rw (to_z-of_z {w = w64} x, to_z-of_z {w = w64} y, to_z-of_z {w = w64} z, a, b, c, e, f, g) refl

-- the number that is told
module _ (n : ℕ) where
  pub number_none : n ≡ 0 → Ok false ≡ ending_in n
  unfolding ending_in
  number_none h = rw (eq-eqb n 0 h) refl

  pub number_no_edition : (n ≡ 0 → ⊥) → n ≡ 42 → Err Refusal.NoEdition ≡ ending_in n
  unfolding ending_in
  number_no_edition h k = rw (ne_eqb n 0 h, eq-eqb n 42 k) refl

  pub number_over : (n ≡ 0 → ⊥) → (n ≡ 42 → ⊥) → Ok true ≡ ending_in n
  unfolding ending_in
  number_over h k = rw (ne_eqb n 0 h, ne_eqb n 42 k) refl

pub finished_read : (w : List ℕ) {e : Code.Ending} {s : Sums} → e ≡ ending_in (get_or w 0 0) → s ≡ counts_in w → record { told = e; sums = s } ≡ finished_in w
unfolding finished_in
finished_read w p q = λ i. record { told = p i; sums = q i }

-- ---- the contract

number_meant : (e : Code.Ending) → ending_number e ≡ told_number (ending_meant e)
number_meant (Ok over) = refl
number_meant (Err y) = refl

module _ (first second report report' : List ℕ) where
  pub combined_c : (f s r : Finished) (n : ℕ) → FINISH ≤ length first → FINISH ≤ length second → FINISH ≤ length report → f ≡ finished_in first
      → s ≡ finished_in second → Combine f s r → n ≡ ending_number r.told → report' ≡ with_front report (report_words n (report_in r.sums))
      → CombinedC first second report report' n
  combined_c f s r n h k l ef es x m t =
      let q : told_in r ≡ told_of_both first second = x.tells ∙ ap₂ (λ (f s : Finished). combined (told_in f) (told_in s)) ef es in
      combine_told h k l (m ∙ number_meant r.told ∙ ap (λ (e : Ending). told_number e.told) q)
      (t ∙ ap (λ (e : Ending). with_front report (report_words n e.report)) q)

-- no two answers, nor two reports left
pub short_not : {A : Type 0} (a b c : ℕ) → (a < FINISH) ⊎ ((b < FINISH) ⊎ (c < FINISH)) → FINISH ≤ a → FINISH ≤ b → FINISH ≤ c → A
short_not a b c (inl x) h k l = absurd (omega arith)
short_not a b c (inr (inl x)) h k l = absurd (omega arith)
short_not a b c (inr (inr x)) h k l = absurd (omega arith)

pub combine_determined : {first second report r q : List ℕ} {n m : ℕ} → CombinedC first second report r n → CombinedC first second report q m
    → (n ≡ m) × (r ≡ q)
combine_determined (combine_no_room x e f) (combine_no_room y g h) = (e ∙ sym g, f ∙ sym h)
combine_determined {first} {second} {report} (combine_no_room x e f) (combine_told h k l m t) =
    short_not (length first) (length second) (length report) x h k l
combine_determined {first} {second} {report} (combine_told h k l m t) (combine_no_room y g f) =
    short_not (length first) (length second) (length report) y h k l
combine_determined {first} {second} {report} (combine_told h k l m t) (combine_told i j o p u) =
    let e = m ∙ sym p in
    (e, t ∙ ap (λ (n : ℕ). with_front report (report_words n (told_of_both first second).report)) e ∙ sym u)
