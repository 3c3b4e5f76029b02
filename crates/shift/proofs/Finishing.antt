-- What is told in the end is the written report of what the state stands for (R14.6, R14.8).
use Rattle.std.specs.Prelude.{Ok, Err}
use lib.ListN.{length, take}
use mathlib.Core.Bool.{Bool, true, false, cond, false≢true}
use mathlib.Core.List.{List, [], ◌∷◌, ◌++◌, append-nil}
use mathlib.Core.Option.{Option, none, some}
use mathlib.Core.Path.{◌≡◌, refl, sym, ap, subst, ◌∙◌}
use native.Mathlib.Omega.{arith}
use Prim.Native.Nat.{ℕ, ◌<◌}
use Rattle.language.specs.Sizes.{LINES}
use Rattle.language.specs.Tokens.{Vocabulary}
use Rattle.language.specs.Edition.{edition, is_known, is_some}
use Rattle.language.specs.Shift.{lines, AllCome}
use Rattle.language.specs.Feeding.{Sofar, rest_of, closed, closed_told}
use Rattle.language.proofs.Shift.Whole.{fed_shift}
use Rattle.tally.specs.Parts.{no_part, longer_by, is_begun}
use Rattle.tally.specs.Stands.{Stands}
use Rattle.numbers.specs.declared.Refusal.{Refusal}
use Rattle.tally.specs.Sums.{with_bad, no_sums}
use Rattle.tally.specs.declared.sums.Sums.{Sums}
use Rattle.tally.proofs.Reported.{report_stands, bad_more}
use Rattle.shift.specs.declared.State.{State}
use Rattle.shift.specs.Meanings.{closed_sums, over_told}
use Rattle.shift.specs.After.{After, Reports}
use Rattle.shift.specs.Taking.{needed}
use Rattle.shift.specs.Meanings.{Ending}
use Rattle.shift.specs.Promises.{Finish, finished, no_edition}
use Rattle.shift.proofs.Kept.{some_begun, none_begun}
use Rattle.shift.proofs.Sound.{Fits, begun_fits, fed_fits}
use Rattle.shift.proofs.Standing.{Keeps, new_keeps, takes_stood}

-- the sums in the end stand for all the lines
closed_stands : (state : State) (s : Sofar) → Keeps state s → Fits s → Stands (closed s) (closed_sums state)
unfolding closed closed_sums
closed_stands state s k f = by_over state.over s.over k.over refl
  where
    by_part : (p : List ℕ) → state.part ≡ longer_by no_part p → (0 < length p → length s.outcomes < LINES)
        → Stands (s.outcomes ++ rest_of p) (cond (is_begun state.part) (with_bad state.sums) state.sums)
    by_part [] e h = rw (e, none_begun, append-nil s.outcomes) k.sums
    by_part (b ∷ p) e h = rw (e, some_begun b p) (bad_more s.outcomes state.sums k.sums (h (omega arith)))

    by_over : (x y : Bool) → x ≡ y → s.over ≡ y
        → Stands (cond y s.outcomes (s.outcomes ++ rest_of s.part))
        (cond x state.sums (cond (is_begun state.part) (with_bad state.sums) state.sums))
    by_over true true e g = k.sums
    by_over true false e g = absurd (false≢true (sym e))
    by_over false true e g = absurd (false≢true e)
    by_over false false e g = by_part s.part k.part (f.room g)

same_over : (x : Bool) (s : Sofar) → x ≡ s.over → over_told x ≡ closed_told s
unfolding closed_told
same_over x s e = ap over_told e

-- whatever lay in the output
pub reports : {n : ℕ} {book : List ℕ} {room : ℕ} {input : List ℕ} {state : State} → After n book room input state
    → Reports n book room state.allowance input state.over (closed_sums state)
reports {n} {book} {room} {input} {state} a = record {
  lines = a.lines;
  written = λ output.
      let z = takes_stood (new_keeps state.allowance output) a.taken in
      let x = fed_shift input output z.fed in
      let f = fed_fits (begun_fits output) z.fed in
      record {
        outcomes = x.outcomes;
        come = subst (λ (o : List ℕ). AllCome n book (needed room state.allowance) (take LINES (lines input)) x.outcomes output o)
            z.output x.come;
        reports = report_stands (closed_stands state z.so_far z.keeps f) ∙ x.reports;
        refuses = same_over state.over z.so_far z.keeps.over ∙ x.refuses;
      };
}

-- ---- by what the code finds

module _ (state : State) where
  pub closed_over : state.over ≡ true → state.sums ≡ closed_sums state
  unfolding closed_sums
  closed_over e = rw e

  pub closed_begun : (b : Bool) → state.over ≡ false → b ≡ is_begun state.part → b ≡ true → with_bad state.sums ≡ closed_sums state
  unfolding closed_sums
  closed_begun b e f g = rw (e, sym f, g)

  pub closed_still : (b : Bool) → state.over ≡ false → b ≡ is_begun state.part → b ≡ false → state.sums ≡ closed_sums state
  unfolding closed_sums
  closed_still b e f g = rw (e, sym f, g)

  module _ (n : ℕ) (k : Bool) (known : k ≡ is_known n) (sums : Sums) where
    pub finish_known : k ≡ true → sums ≡ closed_sums state → Finish n state (Ok state.over) sums
    unfolding is_known
    finish_known e f = by (edition n) refl
      where
        by : (o : Option Vocabulary) → edition n ≡ o → Finish n state (Ok state.over) sums
        by none g = absurd (false≢true (sym (ap is_some g) ∙ sym known ∙ e))
        by (some v) g = subst (Finish n state (Ok state.over)) (sym f) (finished g)

    pub finish_unknown : k ≡ false → sums ≡ no_sums → Finish n state (Err Refusal.NoEdition) sums
    unfolding is_known
    finish_unknown e f = by (edition n) refl
      where
        by : (o : Option Vocabulary) → edition n ≡ o → Finish n state (Err Refusal.NoEdition) sums
        by none g = subst (Finish n state (Err Refusal.NoEdition)) (sym f) (no_edition g)
        by (some v) g = absurd (false≢true (sym e ∙ known ∙ ap is_some g))
