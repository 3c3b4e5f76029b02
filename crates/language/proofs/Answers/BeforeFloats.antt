-- A sheet that passed before there were floats passes with the same tokens, tree and type, and check and run tell of it what they told
-- (R08.8). It passed: its text splits without points, its tokens had a reading, and that has a type by the rules as they were. What run
-- told went by the meaning as it was, and that the text splits the same is in `OlderTexts`.
use mathlib.Core.List.{List}
use mathlib.Core.Option.{Option, none, some}
use mathlib.Core.Path.{◌≡◌, ◌∙◌, ap, subst}
use Prim.Native.Nat.{ℕ, ◌≤◌}
use Rattle.language.specs.Sizes.{Sizes, ALLOWANCE}
use Rattle.language.specs.Tokens.{EDITION_1, Token}
use Rattle.language.specs.Trees.{Ty, Program}
use Rattle.language.specs.State.{Outcome}
use Rattle.language.specs.Meaning.{type_number, run}
use Rattle.language.specs.Numbers.{passed}
use Rattle.language.specs.Answers.{Origin, TextGivesUnder, PassesUnder, Ending, ending, CheckReport, check_report, CheckedUnder}
use Rattle.language.specs.Answers.{check_passed, Lent, EnoughUnder, RunReport, after_run, RanUnder, run_ended}
use Rattle.language.specs.Pairs.{joined}
use Rattle.language.specs.Edition.{text_in_under, pair_in_under}
use Rattle.language.proofs.Types.OldTypes.{OldHasType, still_has_type}
use Rattle.language.proofs.Grammar.BeforeFloats.{ReadBefore, bare_before}
use Rattle.language.proofs.Meaning.OldMeaning.{old_run}
use Rattle.language.proofs.Meaning.SameAsBefore.{Plain, Same, same_value, same_stop, same_stuck, same_run, same_outcome}
use Rattle.language.proofs.Text.PointBefore.{without}
use Rattle.language.proofs.Answers.Origins.{LawfulUnder}
use Rattle.language.proofs.Answers.Endings.{some_ending}
use Rattle.language.proofs.Answers.OneAnswer.{one_checked, one_ran}
use Rattle.language.proofs.Answers.Editions.{text_in_lawful_under, pair_in_lawful_under, one_is}
use Rattle.language.proofs.Answers.OlderTexts.{before_points}

-- ---- an end that is no float

abbrev PlainEnd : Option Ending → Type 0
PlainEnd none = Unit {0}
PlainEnd (some e) = Plain e.value

plain_ending : {o q : Outcome} {e : Ending} (allowance : ℕ) → Same o q → ending allowance o ≡ some e → Plain e.value
unfolding ending
plain_ending allowance (same_value p q) x = subst PlainEnd x p
plain_ending allowance same_stop x = subst PlainEnd x tt
plain_ending allowance same_stuck x = subst PlainEnd x tt

-- ---- what passed

pub record PassedBefore (σ : Sizes) (source : List ℕ) (ts : List Token) (p : Program) (t : Ty) : Type 0 where
  pub given : TextGivesUnder σ (without EDITION_1) source ts
  pub reads : ReadBefore ts p
  pub typed : OldHasType σ p t

module _ {σ : Sizes} {source : List ℕ} {ts : List Token} {p : Program} {t : Ty} (old : PassedBefore σ source ts p t) where
  given_now : TextGivesUnder σ EDITION_1 source ts
  given_now = record {
    short = old.given.short;
    splits = (before_points source).splits old.reads.reads old.given.splits;
  }

  -- the outcome is the same, to the last unit
  pub same_end : (allowance room : ℕ) → old_run p allowance room ≡ run p allowance room
  same_end allowance room = same_outcome (same_run p allowance room (bare_before old.reads))

  -- this end by the meaning as it was, and so no float
  abbrev pub EndedSo : ℕ → ℕ → Ending → Type 0
  EndedSo allowance room e = (ending allowance (old_run p allowance room) ≡ some e) × Plain e.value

  ended_so : (allowance room : ℕ) {e : Ending} → ending allowance (run p allowance room) ≡ some e → EndedSo allowance room e
  ended_so allowance room x =
      let y = ap (ending allowance) (same_end allowance room) ∙ x in
      (y, plain_ending allowance (same_run p allowance room (bare_before old.reads)) y)

  -- ---- in an origin that has the text: a sheet by itself, or two that are joined

  module _ {P : Type 0} {o : Origin P} (law : LawfulUnder σ o) (has : TextGivesUnder σ EDITION_1 source ts → o.gives ts) where
    pub passes_now : PassesUnder σ o ts p t
    passes_now = record {
      given = has given_now;
      proper = record { reads = old.reads.reads; typed = still_has_type old.typed };
    }

    -- check tells the type
    pub checked_now : {table : ℕ} {r : CheckReport P} → σ.table ≤ table → CheckedUnder σ o table r
        → r ≡ check_report passed o.nowhere (type_number t)
    checked_now {table} room a = one_checked law table a (check_passed room passes_now)

    -- run tells the end that the program had by the meaning as it was
    pub ran_now : {l : Lent} {r : RunReport P} {bs : List ℕ} → EnoughUnder σ l → l.allowance ≤ ALLOWANCE → RanUnder σ o l r bs
        → (e : Ending) × EndedSo l.allowance l.output e × (r ≡ after_run o ts t e) × (bs ≡ e.printed)
    ran_now {l} enough fair a =
        let x = some_ending p t l.allowance l.output (still_has_type old.typed) in
        let y = one_ran law l a (run_ended enough fair passes_now x.1) in
        (x.0, ended_so l.allowance l.output x.1, y.0, y.1)

-- ---- a sheet by itself, and two sheets, in edition 1

module _ {ts : List Token} {p : Program} {t : Ty} where
  pub sheet_passes : {σ : Sizes} {source : List ℕ} → PassedBefore σ source ts p t → PassesUnder σ (text_in_under σ 1 source) ts p t
  sheet_passes {source} old = passes_now old (text_in_lawful_under 1 source) (λ g. record { words = EDITION_1; named = one_is; given = g })

  pub pair_passes : {σ : Sizes} {first second : List ℕ} → PassedBefore σ (joined first second) ts p t
      → PassesUnder σ (pair_in_under σ 1 first second) ts p t
  pair_passes {first} {second} old =
      passes_now old (pair_in_lawful_under 1 first second) (λ g. record { words = EDITION_1; named = one_is; given = g })
