-- What an origin comes to under some sizes it comes to under larger ones, and what it denies it denies there, at the same places,
-- unless that is a matter of size: for a text, for two sheets and for a stored sheet, in every edition.
use mathlib.Core.Bool.{false}
use mathlib.Core.List.{List}
use mathlib.Core.Path.{◌≡◌, refl, sym, subst}
use Prim.Native.Nat.{ℕ}
use native.Mathlib.Omega.{arith}
use Rattle.language.specs.Sizes.{Sizes}
use Rattle.language.specs.Tokens.{Vocabulary, EDITION_1, Token}
use Rattle.language.specs.Text.{Flaw, SplitsUnder, WrongUnder, strange, opened, long, large, many, FlawedUnder}
use Rattle.language.specs.Numbers.{Refusal, no_edition}
use Rattle.language.specs.Answers.{Origin, TextDeniesUnder, TextGivesUnder, text_under}
use Rattle.language.specs.Answers as Answers
use Rattle.language.specs.Pairs.{Place, PairDeniesUnder, too_long, flawed, pair_under}
use Rattle.language.specs.Stored.{StoredGivesUnder, GoodLinesUnder, StoredDeniesUnder, no_count, large_count, no_line, no_token, miscounted}
use Rattle.language.specs.Stored.{overlong, stored_under}
use Rattle.language.specs.Edition.{EditionDenies, unknown, known, in_edition, text_in_under, stored_in_under, pair_in_under}
use Rattle.language.proofs.Sizes.Larger.{Larger, of_both, flaw_of_size, of_size}

pub record Wider {P : Type 0} (o q : Origin P) : Type 0 where
  pub gives : {ts : List Token} → o.gives ts → q.gives ts
  pub denies : {r : Refusal} {x : P} → of_size r ≡ false → o.denies r x → q.denies r x
  pub nowhere : o.nowhere ≡ q.nowhere
  pub at : (ts : List Token) (i : ℕ) → o.at ts i ≡ q.at ts i

module _ {σ τ : Sizes} (l : Larger σ τ) where
  -- ---- a text

  split_larger : {voc : Vocabulary} {t : List ℕ} {ts : List Token} → SplitsUnder σ voc t ts → SplitsUnder τ voc t ts
  split_larger s = record { whole = s.whole; few = omega (arith, s.few, l.tokens) }

  wrong_larger : {voc : Vocabulary} {t : List ℕ} {p : ℕ} {ts : List Token} {f : Flaw} → flaw_of_size f ≡ false → WrongUnder σ voc t p ts f
      → WrongUnder τ voc t p ts f
  wrong_larger k (strange h n) = strange h n
  wrong_larger k (opened a) = opened a
  wrong_larger k (long a) = long a
  wrong_larger k (large a h) = large a h
  wrong_larger k (many a h e) = of_both k

  flawed_larger : {voc : Vocabulary} {t : List ℕ} {f : Flaw} {p : ℕ} → flaw_of_size f ≡ false → FlawedUnder σ voc t f p → FlawedUnder τ voc t f p
  flawed_larger k a = record { tokens = a.tokens; before = a.before; few = omega (arith, a.few, l.tokens); here = wrong_larger k a.here }

  gives_larger : {voc : Vocabulary} {source : List ℕ} {ts : List Token} → TextGivesUnder σ voc source ts → TextGivesUnder τ voc source ts
  gives_larger g = record { short = omega (arith, g.short, l.source); splits = split_larger g.splits }

  denies_larger : {voc : Vocabulary} {source : List ℕ} {r : Refusal} {x : ℕ} → of_size r ≡ false → TextDeniesUnder σ voc source r x
      → TextDeniesUnder τ voc source r x
  denies_larger k (Answers.too_long h) = of_both k
  denies_larger k (Answers.flawed h a) = Answers.flawed (omega (arith, h, l.source)) (flawed_larger k a)

  pub text_wider : (voc : Vocabulary) (source : List ℕ) → Wider (text_under σ voc source) (text_under τ voc source)
  text_wider voc source = record { gives = gives_larger; denies = denies_larger; nowhere = refl; at = λ ts i. refl }

  -- ---- two sheets

  pair_larger : {voc : Vocabulary} {first second : List ℕ} {r : Refusal} {x : Place} → of_size r ≡ false → PairDeniesUnder σ voc first second r x
      → PairDeniesUnder τ voc first second r x
  pair_larger k (too_long h) = of_both k
  pair_larger k (flawed h a) = flawed (omega (arith, h, l.source)) (flawed_larger k a)

  pub pair_wider : (voc : Vocabulary) (first second : List ℕ) → Wider (pair_under σ voc first second) (pair_under τ voc first second)
  pair_wider voc first second = record { gives = gives_larger; denies = pair_larger; nowhere = refl; at = λ ts i. refl }

  -- ---- a stored sheet

  lines_larger : {voc : Vocabulary} {input rest : List ℕ} {n : ℕ} {ts : List Token} → GoodLinesUnder σ voc input n ts rest
      → GoodLinesUnder τ voc input n ts rest
  lines_larger g = record { lines = g.lines; few = omega (arith, g.few, l.tokens); tokens = g.tokens }

  stored_larger : {voc : Vocabulary} {input : List ℕ} {ts : List Token} → StoredGivesUnder σ voc input ts → StoredGivesUnder τ voc input ts
  stored_larger g = record {
    form = g.form;
    tokens = g.tokens;
    few = omega (arith, g.few, l.tokens);
    short = omega (arith, g.short, l.source);
  }

  denied_larger : {voc : Vocabulary} {input : List ℕ} {r : Refusal} {x : ℕ} → of_size r ≡ false → StoredDeniesUnder σ voc input r x
      → StoredDeniesUnder τ voc input r x
  denied_larger k (no_count h) = no_count h
  denied_larger k (large_count f h) = of_both k
  denied_larger k (no_line g h) = no_line (lines_larger g) h
  denied_larger k (no_token g f h) = no_token (lines_larger g) f h
  denied_larger k (miscounted g h) = miscounted (lines_larger g) h
  denied_larger k (overlong g h) = of_both k

  pub stored_wider : (voc : Vocabulary) (input : List ℕ) → Wider (stored_under σ voc input) (stored_under τ voc input)
  stored_wider voc input = record { gives = stored_larger; denies = denied_larger; nowhere = refl; at = λ ts i. refl }

-- ---- by the caller's edition

module _ {P : Type 0} (n : ℕ) {o q : Vocabulary → Origin P} (w : (v : Vocabulary) → Wider (o v) (q v)) where
  in_larger : {r : Refusal} {x : P} → of_size r ≡ false → EditionDenies n o r x → EditionDenies n q r x
  in_larger k (unknown e) = subst (EditionDenies n q no_edition) (sym (w EDITION_1).nowhere) (unknown e)
  in_larger k (known {voc = v} e d) = known e ((w v).denies k d)

  edition_wider : Wider (in_edition n o) (in_edition n q)
  edition_wider = record {
    gives = λ g. record { words = g.words; named = g.named; given = (w g.words).gives g.given };
    denies = in_larger;
    nowhere = (w EDITION_1).nowhere;
    at = (w EDITION_1).at;
  }

module _ {σ τ : Sizes} (l : Larger σ τ) (n : ℕ) where
  pub text_in_wider : (source : List ℕ) → Wider (text_in_under σ n source) (text_in_under τ n source)
  text_in_wider source = edition_wider n λ v. text_wider l v source

  pub pair_in_wider : (first second : List ℕ) → Wider (pair_in_under σ n first second) (pair_in_under τ n first second)
  pair_in_wider first second = edition_wider n λ v. pair_wider l v first second

  pub stored_in_wider : (input : List ℕ) → Wider (stored_in_under σ n input) (stored_in_under τ n input)
  stored_in_wider input = edition_wider n λ v. stored_wider l v input
