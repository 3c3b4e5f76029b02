-- Names as numbers, float numbers as bits: what the last two words of a token are, and when the words of a table stand
-- for a token list.
use Rattle.std.specs.Prelude.{cond, List, [], ◌∷◌, ◌≡◌, ℕ, suc, ◌+◌, ◌/◌, ◌%◌, ◌≤◌, ◌<◌, eqb, length, get_or}
use Rattle.std.specs.Float.{binary64}
use Rattle.std.specs.Float.Ieee.{to_bits}
use Rattle.language.specs.Sizes.{TOKENS, LARGEST}
use Rattle.language.specs.Tokens.{Spelling, same, Token, NAME, NUMBER, FLOAT_NUMBER, past}
use Rattle.language.specs.Tokens.{kind_at, value_at, spelling_at, place_at, At}
use Rattle.language.specs.Decimals.{float_of}
use Rattle.language.specs.Trees.{PUTCHAR}
use Rattle.layout.specs.Table.{SPANS, token_place, token_end, token_high, token_value, kind_of, put_token}
use Rattle.layout.specs.Values.{HALF}

-- the ordinal of the first token that is spelled s, the list's first token being the nth; where there is none, that of
-- its end
unfoldable pub first_from : ℕ → List Token → Spelling → ℕ
first_from n [] s = n
first_from n (t ∷ ts) s = cond (same t.spelling s) n (first_from (suc n) ts s)

-- the number of the name s among the tokens ts; `putchar` has one that is no token's ordinal
unfoldable pub name_number : List Token → Spelling → ℕ
name_number ts s = cond (same s PUTCHAR) TOKENS (first_from 0 ts s)

-- n is the number of the name s, by which a token is spelled
pub record Named (ts : List Token) (n : ℕ) (s : Spelling) : Type 0 where
  pub at : ℕ
  pub inside : at < length ts
  pub spelled : spelling_at ts at ≡ s
  pub number : n ≡ name_number ts s

-- the bits of what a float number is worth
unfoldable pub float_bits : Spelling → ℕ
float_bits s = to_bits binary64 (float_of s)

-- what the token t, one of ts, is worth, as a word: a number's value, a name's number, or the low half of a float's
-- bits
unfoldable pub value_word : List Token → Token → ℕ
value_word ts t =
    cond (eqb t.kind NUMBER) t.value
    (cond (eqb t.kind NAME) (name_number ts t.spelling)
    (cond (eqb t.kind FLOAT_NUMBER) (float_bits t.spelling % HALF) 0))

-- and the high half of them
unfoldable pub high_word : Token → ℕ
high_word t = cond (eqb t.kind FLOAT_NUMBER) (float_bits t.spelling / HALF) 0

-- the places of tokens can be written into a table
abbrev pub Near : List Token → Type 0
Near ts = (i : ℕ) → i < length ts → place_at ts i < SPANS

-- the table with the tokens us of the list ts written from token n on
unfoldable pub lay_tokens : List Token → List ℕ → ℕ → List Token → List ℕ
lay_tokens ts w n [] = w
lay_tokens ts w n (u ∷ us) =
    lay_tokens ts
    (put_token w n u.kind u.place (u.place + length u.spelling) (high_word u) (value_word ts u)) (n + 1) us

-- The first `count` tokens of the table stand for ts. All that the layers above know of a text is this.
pub record Stand (w : List ℕ) (count : ℕ) (ts : List Token) : Type 0 where
  pub long : length ts ≡ count
  pub few : count ≤ TOKENS
  pub kinds : (i : ℕ) → kind_at ts i ≡ kind_of w count i
  pub places : (i : ℕ) → i < count → token_place w i ≡ place_at ts i
  pub ends : (i : ℕ) → i < count → token_end w i ≡ place_at ts i + length (spelling_at ts i)
  pub values : (i : ℕ) → i < count → token_value w i ≡ value_word ts (get_or ts i past)
  pub highs : (i : ℕ) → i < count → token_high w i ≡ high_word (get_or ts i past)
  -- a number is one that can be written
  pub written : (i : ℕ) → At ts i NUMBER → value_at ts i ≤ LARGEST
