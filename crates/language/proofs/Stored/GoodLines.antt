-- How good lines go on, line by line, and what they come to at the end.
use lib.ListN.{length}
use mathlib.Core.List.{List, [], ◌∷◌, ◌++◌, append-nil}
use mathlib.Core.Path.{sym, ap, ◌∙◌}
use Prim.Native.Nat.{ℕ, ◌≤◌}
use Rattle.language.specs.Sizes.{Sizes}
use Rattle.language.specs.Tokens.{Vocabulary, Token}
use Rattle.language.specs.Stored.{count_line, token_lines, stored, spelled_bytes, FirstLine, FirstCount}
use Rattle.language.specs.Stored.{Lone, AllLone, lone_none, lone_more, StoredGivesUnder, GoodLinesUnder}
use Rattle.language.proofs.Stored.Lines.{lines_snoc}

module _ {voc : Vocabulary} where
  one_more : {ts : List Token} {t : Token} → AllLone voc ts → Lone voc t → AllLone voc (ts ++ (t ∷ []))
  one_more lone_none x = lone_more x lone_none
  one_more (lone_more y s) x = lone_more y (one_more s x)

  module _ {input : List ℕ} {n : ℕ} where
    -- a count that is not too large
    pub good_start : {σ : Sizes} {rest : List ℕ} → FirstCount input n rest → n ≤ σ.tokens → GoodLinesUnder σ voc input n [] rest
    unfolding token_lines
    good_start f h = record { lines = f.begins; few = h; tokens = lone_none }

    -- one more line that is a token
    pub good_next : {σ : Sizes} {ts : List Token} {rest more : List ℕ} (t : Token) → GoodLinesUnder σ voc input n ts rest
        → FirstLine rest t.spelling more → Lone voc t
        → GoodLinesUnder σ voc input n (ts ++ (t ∷ [])) more
    good_next {ts} {rest} {more} t g f x = record {
      lines =
          g.lines
          ∙ ap (λ (v : List ℕ). count_line n ++ v) (ap (λ (v : List ℕ). token_lines ts ++ v) f.begins ∙ sym (lines_snoc ts t more));
      few = g.few;
      tokens = one_more g.tokens x;
    }

  -- all lines, as many as counted, and not too many bytes
  pub good_gives : {σ : Sizes} {input : List ℕ} {ts : List Token} → GoodLinesUnder σ voc input (length ts) ts [] → spelled_bytes ts ≤ σ.source
      → StoredGivesUnder σ voc input ts
  unfolding stored
  good_gives {ts = ts} g h = record {
    form = g.lines ∙ ap (λ (s : List ℕ). count_line (length ts) ++ s) (append-nil (token_lines ts));
    tokens = g.tokens;
    few = g.few;
    short = h;
  }

  -- and what is given has good lines
  pub gives_good : {σ : Sizes} {input : List ℕ} {ts : List Token} → StoredGivesUnder σ voc input ts → GoodLinesUnder σ voc input (length ts) ts []
  unfolding stored
  gives_good {ts = ts} g = record {
    lines = g.form ∙ ap (λ (s : List ℕ). count_line (length ts) ++ s) (sym (append-nil (token_lines ts)));
    few = g.few;
    tokens = g.tokens;
  }
