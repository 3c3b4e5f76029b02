-- A rule book and a loom's sheet: two sheets that are read as one text, and what an answer tells of a place in them
-- (R07).
use Rattle.std.specs.Prelude.{cond, List, [], ◌∷◌, ◌++◌, ℕ, zero, suc, ◌+◌, ◌-◌, ◌≤◌, ◌<◌, ltb, leb, length, drop}
use Prim.Native.Char.{code}
use Rattle.language.specs.Sizes.{Sizes, BOX}
use Rattle.language.specs.Tokens.{Vocabulary}
use Rattle.language.specs.Text.{byte, is_in_line, Flaw, FlawedUnder}
use Rattle.language.specs.Numbers.{Refusal, long_source, text}
use Rattle.language.specs.Answers.{Origin, TextGivesUnder, text_under}

-- R07.2: the first, one LF, then the second
abbrev pub joined : List ℕ → List ℕ → List ℕ
joined first second = first ++ (code "\n" ∷ second)

-- ---- lines (R07.3)

-- where the line of byte p begins: behind the last LF before p
unfoldable pub line_begin : List ℕ → ℕ → ℕ
line_begin sheet zero = 0
line_begin sheet (suc p) = cond (is_in_line (byte sheet p)) (line_begin sheet p) (suc p)

-- how many bytes stand before the first LF
unfoldable pub before_feed : List ℕ → ℕ
before_feed [] = 0
before_feed (b ∷ bytes) = cond (is_in_line b) (suc (before_feed bytes)) 0

-- where it ends: at the next LF, which does not belong to it, or with the sheet
unfoldable pub line_end : List ℕ → ℕ → ℕ
line_end sheet p = p + before_feed (drop p sheet)

-- ---- places

-- a sheet, 1 or 2; a byte of it; and the part of it that is shown, from its first byte up to its end
pub record Place : Type 0 where
  pub sheet : ℕ
  pub at : ℕ
  pub begins : ℕ
  pub ends : ℕ

-- the line around byte p of a sheet, and at its end the empty part there (R07.4)
unfoldable pub in_sheet : ℕ → List ℕ → ℕ → Place
in_sheet n sheet p =
    cond (ltb p (length sheet)) (record { sheet = n; at = p; begins = line_begin sheet p; ends = line_end sheet p })
    (record { sheet = n; at = p; begins = p; ends = p })

-- R07.4: the LF between them counts for the end of the first
unfoldable pub place_of : List ℕ → List ℕ → ℕ → Place
place_of first second p =
    cond (leb p (length first)) (in_sheet 1 first p) (in_sheet 2 second (p - suc (length first)))

-- R07.5: where nothing stands that could be shown
abbrev pub front : Place
front = record { sheet = 1; at = 0; begins = 0; ends = 0 }

-- ---- the two as an origin of tokens

module _ (σ : Sizes) (voc : Vocabulary) (first second : List ℕ) where
  pub data PairDeniesUnder : Refusal → Place → Type 0 where
    too_long : σ.source < length (joined first second) → PairDeniesUnder long_source front
    flawed : {f : Flaw} {p : ℕ} → length (joined first second) ≤ σ.source → FlawedUnder σ voc (joined first second) f p
        → PairDeniesUnder (text f) (place_of first second p)

  abbrev pub pair_under : Origin Place
  pair_under = record {
    gives = TextGivesUnder σ voc (joined first second);
    denies = PairDeniesUnder;
    nowhere = front;
    at = λ ts i. place_of first second ((text_under σ voc (joined first second)).at ts i);
  }

abbrev pub PairDenies : Vocabulary → List ℕ → List ℕ → Refusal → Place → Type 0
PairDenies = PairDeniesUnder BOX

abbrev pub from_pair : Vocabulary → List ℕ → List ℕ → Origin Place
from_pair = pair_under BOX
