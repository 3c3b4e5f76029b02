-- What the functions of this crate promise. The text of tokens is said once more here, by the words of a table, for
-- those that know words alone; `write` promises what the language says.
use Rattle.std.specs.Prelude.{List, [], ◌∷◌, ◌++◌, ◌≡◌, ℕ, zero, suc, ◌+◌, ◌-◌, ◌≤◌, ◌<◌, length, drop, Option, Some, None}
use Prim.Native.Char.{code}
use Rattle.std.proofs.Math.Seq.{slice, paste}
use Rattle.language.specs.Sizes.{SOURCE, TOKENS, TABLE}
use Rattle.language.specs.Tokens.{Vocabulary, Token}
use Rattle.language.specs.Text.{Splits}
use Rattle.language.specs.Writing as Writing
use Rattle.language.specs.Writing.{written_out, Fits}
use Rattle.layout.specs.Table.{token_place, token_end}
use Rattle.layout.specs.Names.{Stand}

-- ---- bytes put into lent ones

-- a part put at a place, and where it ends
abbrev pub Put : (now next part : List ℕ) (at end : ℕ) → Type 0
Put now next part at end = (end ≡ at + length part) × (next ≡ paste now at part (length part))

-- a part stands first, and what was behind it is as before
abbrev pub Front : (part entry exit : List ℕ) → Type 0
Front part entry exit = exit ≡ part ++ drop (length part) entry

-- the bytes from `from` up to `to` of a source of `long` bytes have room in `out` bytes from `at` on
pub record Room (long from to out at : ℕ) : Type 0 where
  pub order : from ≤ to
  pub inside : to ≤ long
  pub room : at + (to - from) ≤ out

-- ---- the text by the words of a table

-- each of the first `count` tokens of the table lies in a source of `long` bytes
pub record Spanned (long : ℕ) (w : List ℕ) (count : ℕ) : Type 0 where
  pub room : TABLE ≤ length w
  pub few : count ≤ TOKENS
  pub order : (i : ℕ) → i < count → token_place w i ≤ token_end w i
  pub inside : (i : ℕ) → i < count → token_end w i ≤ long

-- how many bytes token i has
abbrev pub size_of : List ℕ → ℕ → ℕ
size_of w i = token_end w i - token_place w i

-- and it and the byte behind it have room
pub record Span (long : ℕ) (w : List ℕ) (count i out at : ℕ) : Type 0 where
  pub spans : Spanned long w count
  pub here : i < count
  pub room : at + size_of w i < out

-- the byte behind a token, before n others
unfoldable pub mark : ℕ → ℕ
mark zero = code "\n"
mark (suc n) = code " "

-- token i and the byte behind it
unfoldable pub with_mark : List ℕ → List ℕ → ℕ → ℕ → List ℕ
unfolding mark
with_mark source w i n = slice (token_place w i) (token_end w i) source ++ (mark n ∷ [])

-- n tokens from token i on, and how long that is
unfoldable pub text_from : List ℕ → List ℕ → ℕ → ℕ → List ℕ
unfolding with_mark
text_from source w i zero = []
text_from source w i (suc n) = with_mark source w i n ++ text_from source w (i + 1) n

unfoldable pub text_long : List ℕ → ℕ → ℕ → ℕ
text_long w i zero = 0
text_long w i (suc n) = size_of w i + 1 + text_long w (i + 1) n

-- ---- the text of a source

-- the table stands for the tokens of the source, by whatever vocabulary it was split
pub record Writable (source w : List ℕ) (count : ℕ) : Type 0 where
  pub words : Vocabulary
  pub tokens : List Token
  pub stand : Stand w count tokens
  pub room : TABLE ≤ length w
  pub short : length source ≤ SOURCE
  pub splits : Splits words source tokens

-- what is told of a text and left in the output
abbrev pub Told : List Token → List ℕ → List ℕ → Option ℕ → Type 0
Told ts out out' (Some n) = Fits ts (length out) × (n ≡ length (written_out ts))
    × Front (written_out ts) out out'
Told ts out out' None = Writing.TooLong ts (length out) × (out' ≡ out)

pub record WritesOut (source w : List ℕ) (count : ℕ) (out out' : List ℕ) (r : Option ℕ) : Type 0 where
  pub told : {voc : Vocabulary} (ts : List Token) → Stand w count ts → Splits voc source ts → Told ts out out' r
