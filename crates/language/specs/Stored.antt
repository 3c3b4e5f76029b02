-- Stored sheets (R09): tokens as lines of hexadecimal, and what such lines come to. A stored sheet is an origin of
-- tokens whose places are line numbers, from 1; which edition it is of, the caller says (R12.12).
use Rattle.std.specs.Prelude.{cond, List, [], ◌∷◌, ◌++◌, ◌≡◌, ℕ, ◌+◌, ◌-◌, ◌/◌, ◌%◌, ◌≤◌, ◌<◌, ltb, length}
use Prim.Native.Char.{code}
use Rattle.language.specs.Sizes.{Sizes, BOX, BYTE}
use Rattle.language.specs.Tokens.{Vocabulary, Token}
use Rattle.language.specs.Text.{byte, many_tokens, SplitsWhole}
use Rattle.language.specs.Numbers.{Refusal, text, long_source, not_hexadecimal, wrong_count, not_one_token}
use Rattle.language.specs.Answers.{Origin}

-- ---- the stored form (R09.2)

-- the digit that is worth n, a capital from ten on
unfoldable pub capital : ℕ → ℕ
capital n = cond (ltb n 10) (code "0" + n) (code "A" + (n - 10))

-- bytes in hexadecimal, two digits each
unfoldable pub hex : List ℕ → List ℕ
hex [] = []
hex (b ∷ s) = capital (b / 16) ∷ capital (b % 16) ∷ hex s

unfoldable pub line : List ℕ → List ℕ
line s = hex s ++ (code "\n" ∷ [])

-- the most that four digits tell
abbrev pub COUNT : ℕ
COUNT = 65535

-- a count in four digits, which are those of two bytes, the higher first
unfoldable pub count_line : ℕ → List ℕ
count_line n = line (n / 256 ∷ n % 256 ∷ [])

-- a token is stored as it is spelled
unfoldable pub token_lines : List Token → List ℕ
token_lines [] = []
token_lines (t ∷ ts) = line t.spelling ++ token_lines ts

unfoldable pub stored : List Token → List ℕ
stored ts = count_line (length ts) ++ token_lines ts

-- the bytes of all spellings
unfoldable pub spelled_bytes : List Token → ℕ
spelled_bytes [] = 0
spelled_bytes (t ∷ ts) = length t.spelling + spelled_bytes ts

-- ---- lines, as an input begins with them

-- a byte at least, and nothing but bytes
pub record Bytes (s : List ℕ) : Type 0 where
  pub some : 0 < length s
  pub each : (i : ℕ) → byte s i ≤ BYTE

-- The first line is one of hexadecimal and holds the bytes s. What does not begin with such a line is empty, or begins
-- with one that has another byte, or no digit, or an odd number of them, or no LF.
pub record FirstLine (input s rest : List ℕ) : Type 0 where
  pub begins : input ≡ line s ++ rest
  pub bytes : Bytes s

-- the first line is a count of four digits
pub record FirstCount (input : List ℕ) (n : ℕ) (rest : List ℕ) : Type 0 where
  pub begins : input ≡ count_line n ++ rest
  pub digits : n ≤ COUNT

-- ---- what an input comes to

module _ (voc : Vocabulary) where
  -- what t is spelled with is t and nothing else: no blank, no comment, no second token, no number over its limit
  pub record Lone (t : Token) : Type 0 where
    pub bytes : Bytes t.spelling
    pub splits : SplitsWhole voc t.spelling (t ∷ [])

  pub data AllLone : List Token → Type 0 where
    lone_none : AllLone []
    lone_more : {t : Token} {ts : List Token} → Lone t → AllLone ts → AllLone (t ∷ ts)

module _ (σ : Sizes) (voc : Vocabulary) where
  -- it is the stored form of tokens
  pub record StoredGivesUnder (input : List ℕ) (ts : List Token) : Type 0 where
    pub form : input ≡ stored ts
    pub tokens : AllLone voc ts
    pub few : length ts ≤ σ.tokens
    pub short : spelled_bytes ts ≤ σ.source

  -- good lines: a count that is not too large, then those of the tokens ts; `rest` stands behind them
  pub record GoodLinesUnder (input : List ℕ) (n : ℕ) (ts : List Token) (rest : List ℕ) : Type 0 where
    pub lines : input ≡ count_line n ++ (token_lines ts ++ rest)
    pub few : n ≤ σ.tokens
    pub tokens : AllLone voc ts

  pub data StoredDeniesUnder (input : List ℕ) : Refusal → ℕ → Type 0 where
    -- R09.6, R09.7, of the first line; nothing at all has none
    no_count : ((n : ℕ) (rest : List ℕ) → FirstCount input n rest → ⊥) → StoredDeniesUnder input not_hexadecimal 1
    large_count : {n : ℕ} {rest : List ℕ} → FirstCount input n rest → σ.tokens < n
        → StoredDeniesUnder input (text many_tokens) 1
    -- R09.6, of the line behind those of ts, be they more than were counted
    no_line : {n b : ℕ} {ts : List Token} {rest : List ℕ} → GoodLinesUnder input n ts (b ∷ rest)
        → ((s more : List ℕ) → FirstLine (b ∷ rest) s more → ⊥)
        → StoredDeniesUnder input not_hexadecimal (length ts + 2)
    no_token : {n : ℕ} {ts : List Token} {rest s more : List ℕ} → GoodLinesUnder input n ts rest → FirstLine rest s more
        → ((t : Token) → t.spelling ≡ s → Lone voc t → ⊥) → StoredDeniesUnder input not_one_token (length ts + 2)
    -- R09.8, where every line is good
    miscounted : {n : ℕ} {ts : List Token} → GoodLinesUnder input n ts [] → (n ≡ length ts → ⊥)
        → StoredDeniesUnder input wrong_count 1
    overlong : {ts : List Token} → GoodLinesUnder input (length ts) ts [] → σ.source < spelled_bytes ts
        → StoredDeniesUnder input long_source 0

  -- R09.9: a token's place is its line, the end's the line behind the last
  abbrev pub stored_under : List ℕ → Origin ℕ
  stored_under input = record {
    gives = StoredGivesUnder input;
    denies = StoredDeniesUnder input;
    nowhere = 0;
    at = λ ts i. i + 2;
  }

abbrev pub StoredGives : Vocabulary → List ℕ → List Token → Type 0
StoredGives = StoredGivesUnder BOX

abbrev pub GoodLines : Vocabulary → List ℕ → ℕ → List Token → List ℕ → Type 0
GoodLines = GoodLinesUnder BOX

abbrev pub StoredDenies : Vocabulary → List ℕ → Refusal → ℕ → Type 0
StoredDenies = StoredDeniesUnder BOX

abbrev pub from_stored : Vocabulary → List ℕ → Origin ℕ
from_stored = stored_under BOX
