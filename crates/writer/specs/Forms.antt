-- What the functions that store a sheet promise. Its form is said once more here, by the words of a table, for those
-- that know words alone; `store` promises what the language says.
use Rattle.std.specs.Prelude.{List, [], ◌++◌, ◌≡◌, ℕ, zero, suc, ◌+◌, ◌*◌, ◌-◌, ◌≤◌, ◌<◌, length, Option, Some, None}
use Rattle.std.proofs.Math.Seq.{slice}
use Rattle.language.specs.Tokens.{Vocabulary, Token}
use Rattle.language.specs.Text.{Splits}
use Rattle.language.specs.Stored.{line, count_line, stored}
use Rattle.layout.specs.Table.{token_place, token_end}
use Rattle.layout.specs.Names.{Stand}
use Rattle.writer.specs.Texts.{Front, Spanned, size_of, text_long}

-- the digits of the bytes from `from` up to `to` of a source of `long` bytes have room in `out` bytes from `at` on
pub record HexRoom (long from to out at : ℕ) : Type 0 where
  pub order : from ≤ to
  pub inside : to ≤ long
  pub room : at + (to - from) * 2 ≤ out

-- and so have the line of token i
pub record LineRoom (long : ℕ) (w : List ℕ) (count i out at : ℕ) : Type 0 where
  pub spans : Spanned long w count
  pub here : i < count
  pub room : at + size_of w i * 2 < out

-- ---- the form by the words of a table

unfoldable pub token_line : List ℕ → List ℕ → ℕ → List ℕ
token_line source w i = line (slice (token_place w i) (token_end w i) source)

-- n tokens from token i on
unfoldable pub lines_from : List ℕ → List ℕ → ℕ → ℕ → List ℕ
unfolding token_line
lines_from source w i zero = []
lines_from source w i (suc n) = token_line source w i ++ lines_from source w (i + 1) n

unfoldable pub form_of : List ℕ → List ℕ → ℕ → List ℕ
unfolding lines_from
form_of source w count = count_line count ++ lines_from source w 0 count

-- how long that is
abbrev pub form_long : List ℕ → ℕ → ℕ
form_long w count = text_long w 0 count * 2 - count + 5

-- ---- the form of a source

-- what is told of a stored form and left in the output
abbrev pub Told : List Token → List ℕ → List ℕ → Option ℕ → Type 0
Told ts out out' (Some n) = (length (stored ts) ≤ length out) × (n ≡ length (stored ts))
    × Front (stored ts) out out'
Told ts out out' None = (length out < length (stored ts)) × (out' ≡ out)

pub record StoresOut (source w : List ℕ) (count : ℕ) (out out' : List ℕ) (r : Option ℕ) : Type 0 where
  pub told : {voc : Vocabulary} (ts : List Token) → Stand w count ts → Splits voc source ts → Told ts out out' r
