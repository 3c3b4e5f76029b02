-- What the three origins come to with the sizes apart, and when no size is exceeded, each in its own words: a source and its tokens
-- are not too long, and of no reading 30 or 34 is told. Then demand 3 with the sizes apart is that of `Apart`.
use mathlib.Core.List.{List}
use mathlib.Core.Logic.{◌↔◌}
use mathlib.Core.Option.{some}
use mathlib.Core.Path.{◌≡◌, subst}
use Prim.Native.Nat.{ℕ, ◌≤◌}
use lib.ListN.{length}
use Rattle.language.specs.Sizes.{Sizes, ALLOWANCE}
use Rattle.language.specs.Tokens.{Vocabulary, Token}
use Rattle.language.specs.Text.{SplitsWhole}
use Rattle.language.specs.Trees.{Ty, Program}
use Rattle.language.specs.Grammar.{Reading}
use Rattle.language.specs.Meaning.{type_number}
use Rattle.language.specs.Numbers.{passed}
use Rattle.language.specs.Answers.{Origin, TextGivesUnder, CheckReport, CheckedUnder, Lent, EnoughUnder, RunReport, RanUnder}
use Rattle.language.specs.Stored.{AllLone, stored, spelled_bytes}
use Rattle.language.specs.Pairs.{joined}
use Rattle.language.specs.Edition.{edition, in_edition, text_in_under, stored_in_under, pair_in_under}
use Rattle.language.proofs.Answers.Endings.{IsRun}
use Rattle.language.proofs.Answers.Editions.{one_edition, text_in_lawful_under}
use Rattle.language.proofs.Sizes.TypesApart.{Fitting}
use Rattle.language.proofs.Sizes.Apart.{IsSheet, Within, check_type_apart, run_type_apart}

-- ---- a text, and two sheets as one text

pub record TextWithin (σ : Sizes) (voc : Vocabulary) (source : List ℕ) : Type 0 where
  pub short : length source ≤ σ.source
  pub few : {ts : List Token} → SplitsWhole voc source ts → length ts ≤ σ.tokens
  pub fits : {ts : List Token} {p : Program} → SplitsWhole voc source ts → Reading ts p → Fitting σ p

-- ---- a stored sheet

-- it is the stored form of tokens
pub record IsStored (voc : Vocabulary) (input : List ℕ) (ts : List Token) : Type 0 where
  pub form : input ≡ stored ts
  pub tokens : AllLone voc ts

pub record StoredWithin (σ : Sizes) (voc : Vocabulary) (input : List ℕ) : Type 0 where
  pub short : {ts : List Token} → IsStored voc input ts → spelled_bytes ts ≤ σ.source
  pub few : {ts : List Token} → IsStored voc input ts → length ts ≤ σ.tokens
  pub fits : {ts : List Token} {p : Program} → IsStored voc input ts → Reading ts p → Fitting σ p

-- ---- in an edition

text_given : {σ : Sizes} {voc : Vocabulary} {source : List ℕ} {ts : List Token} → TextWithin σ voc source → SplitsWhole voc source ts
    → TextGivesUnder σ voc source ts
text_given w s = record { short = w.short; splits = record { whole = s; few = w.few s } }

module _ (n : ℕ) {voc : Vocabulary} (e : edition n ≡ some voc) where
  named : {P : Type 0} {o : Vocabulary → Origin P} {ts : List Token} → (in_edition n o).gives ts → (o voc).gives ts
  named {o = o} {ts = ts} g = subst (λ (v : Vocabulary). (o v).gives ts) (one_edition n g.named e) g.given

  pub text_within : {σ : Sizes} (source : List ℕ) → TextWithin σ voc source → Within (SplitsWhole voc source) σ (text_in_under σ n source)
  text_within source w = record {
    given = λ s. record { words = voc; named = e; given = text_given w s };
    comes = λ g. (named g).splits.whole;
    fits = w.fits;
  }

  pub pair_within : {σ : Sizes} (first second : List ℕ) → TextWithin σ voc (joined first second)
      → Within (SplitsWhole voc (joined first second)) σ (pair_in_under σ n first second)
  pair_within first second w = record {
    given = λ s. record { words = voc; named = e; given = text_given w s };
    comes = λ g. (named g).splits.whole;
    fits = w.fits;
  }

  pub stored_within : {σ : Sizes} (input : List ℕ) → StoredWithin σ voc input → Within (IsStored voc input) σ (stored_in_under σ n input)
  stored_within input w = record {
    given = λ s. record {
      words = voc;
      named = e;
      given = record { form = s.form; tokens = s.tokens; few = w.few s; short = w.short s };
    };
    comes = λ g. let a = named g in record { form = a.form; tokens = a.tokens };
    fits = w.fits;
  }

-- ---- demand 3 of a text, in full; of the other two it is the same, with what they come to

module _ {σ : Sizes} (n : ℕ) {voc : Vocabulary} (e : edition n ≡ some voc) (source : List ℕ) (w : TextWithin σ voc source) where
  pub check_text_apart : {table : ℕ} → σ.table ≤ table → {r : CheckReport ℕ} → CheckedUnder σ (text_in_under σ n source) table r
      → (t : Ty) → ((r.told ≡ passed) × (r.type ≡ type_number t)) ↔ IsSheet (SplitsWhole voc source) t
  check_text_apart room a t = check_type_apart (text_in_lawful_under n source) (text_within n e source w) room a t

  pub run_text_apart : {l : Lent} → EnoughUnder σ l → l.allowance ≤ ALLOWANCE → {r : RunReport ℕ} {bs : List ℕ}
      → RanUnder σ (text_in_under σ n source) l r bs
      → (t : Ty) → (IsRun r.told × (r.type ≡ type_number t)) ↔ IsSheet (SplitsWhole voc source) t
  run_text_apart enough fair a t = run_type_apart (text_in_lawful_under n source) (text_within n e source w) enough fair a t
