-- A sheet that passed by an older vocabulary passes in edition 1 as before: the same tokens, reading, type and run, and so the same
-- report. Before numbers in hex and binary (R06.6), and before numbers with a point (R08.8).
use mathlib.Core.List.{List}
use mathlib.Core.Path.{◌≡◌, refl, subst}
use Prim.Native.Nat.{ℕ}
use native.Mathlib.Omega.{arith}
use lib.ListN.{length}
use Rattle.language.specs.Sizes.{Sizes}
use Rattle.language.specs.Tokens.{Vocabulary, EDITION_1, Token}
use Rattle.language.specs.Text as Text
use Rattle.language.specs.Trees.{Ty, Program}
use Rattle.language.specs.Grammar.{Reading}
use Rattle.language.specs.Meaning.{type_number}
use Rattle.language.specs.Numbers.{Refusal, passed, refused}
use Rattle.language.specs.Answers.{Origin, Spot, nowhere, at, place_in, text_under, PassesUnder, CheckReport, CheckedUnder, check_short}
use Rattle.language.specs.Answers.{check_refused, check_passed, RunReport, Lent, Ending, RanUnder, run_short, run_large, run_refused, run_ended}
use Rattle.language.specs.Edition.{text_in_under}
use Rattle.language.proofs.Answers.Editions.{one_is}
use Rattle.language.proofs.Grammar.NumberThenName.{number_then_name}
use Rattle.language.proofs.Text.Marks.{laws_1}
use Rattle.language.proofs.Text.Tables.{every}
use Rattle.language.proofs.Text.DecimalBefore.{DECIMAL, laws_then, splits_as_before}
use Rattle.language.proofs.Text.PointBefore.{without, splits_with_points}
use Rattle.language.proofs.Text.Points.{pointless}

-- ---- what carries over

-- a text that has a reading splits in edition 1 as by the vocabulary
pub record Carries (voc : Vocabulary) (source : List ℕ) : Type 0 where
  pub splits : {σ : Sizes} {ts : List Token} {p : Program} → Reading ts p → Text.SplitsUnder σ voc source ts → Text.SplitsUnder σ EDITION_1 source ts

module _ {voc : Vocabulary} {source : List ℕ} (carries : Carries voc source) where
  abbrev before : Sizes → Origin ℕ
  before σ = text_under σ voc source

  -- it passes, with the same tokens, the same reading and the same type
  pub passes_as_before : {σ : Sizes} {ts : List Token} {p : Program} {t : Ty} → PassesUnder σ (before σ) ts p t
      → PassesUnder σ (text_in_under σ 1 source) ts p t
  passes_as_before x = record {
    given = record {
      words = EDITION_1;
      named = one_is;
      given = record { short = x.given.short; splits = carries.splits x.proper.reads x.given.splits };
    };
    proper = x.proper;
  }

  -- so what check told of it, it tells
  pub check_as_before : {σ : Sizes} {table : ℕ} {r : CheckReport ℕ} → CheckedUnder σ (before σ) table r → r.told ≡ passed
      → CheckedUnder σ (text_in_under σ 1 source) table r
  check_as_before (check_short h) e = absurd (let z : ◌≡◌ {A = ℕ} 0 1 = cc in omega arith)
  check_as_before (check_refused h x) e = absurd (let z : ◌≡◌ {A = ℕ} 0 1 = cc in omega arith)
  check_as_before (check_passed h x) e = check_passed h (passes_as_before x)

  same_place : (σ : Sizes) (ts : List Token) (s : Spot) → place_in (text_in_under σ 1 source) ts s ≡ place_in (before σ) ts s
  same_place σ ts nowhere = refl
  same_place σ ts (at i) = refl

  told_at : ℕ → Ty → Ending → RunReport ℕ
  told_at x t e = record {
    told = e.told;
    place = x;
    type = type_number t;
    value = e.value;
    units = e.units;
    printed = length e.printed;
  }

  -- and so for run, whether it came to a value or stopped
  pub run_as_before : {σ : Sizes} {l : Lent} {r : RunReport ℕ} {printed : List ℕ} → RanUnder σ (before σ) l r printed
      → ((q : Refusal) → r.told ≡ refused q → ⊥) → RanUnder σ (text_in_under σ 1 source) l r printed
  unfolding told_at
  run_as_before (run_short h) n = absurd (n _ refl)
  run_as_before (run_large h a) n = absurd (n _ refl)
  run_as_before (run_refused h a x) n = absurd (n _ refl)
  run_as_before {σ} {l} (run_ended {ts = ts} {t = t} {e = e} h a x z) n =
      subst (λ y. RanUnder σ (text_in_under σ 1 source) l (told_at y t e) e.printed) (same_place σ ts e.spot) (run_ended h a (passes_as_before x) z)

-- ---- the older vocabularies

-- without points
pub before_points : (source : List ℕ) → Carries (without EDITION_1) source
unfolding every pointless
before_points source = record { splits = λ r s. splits_with_points laws_1 refl source s }

-- without bases too
pub before_bases : (source : List ℕ) → Carries (without DECIMAL) source
unfolding every pointless
before_bases source =
    record { splits = λ r s. splits_as_before (number_then_name r) (splits_with_points laws_then refl source s) }
