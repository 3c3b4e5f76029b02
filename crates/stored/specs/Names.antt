-- Names by their lines: the table w holds the tokens of the lines of an input t, as far as they are read.
use Rattle.std.specs.Prelude.{length, get_or, true, false, List, ◌≡◌, ℕ, zero, suc, ◌+◌, ◌*◌, ◌≤◌, ◌<◌}
use Rattle.std.proofs.Math.Seq.{slice}
use Rattle.language.specs.Sizes.{TOKENS, TABLE}
use Rattle.language.specs.Tokens.{same, NAME}
use Rattle.language.specs.Trees.{PUTCHAR}
use Rattle.layout.specs.Table.{token_end}
use Rattle.tokens.specs.Forks.{STARTS_AT, Sought}
use Rattle.tokens.specs.Shown.{told}

-- where the line of token i begins, behind the count and the lines before it, two digits a byte and LF each
unfoldable pub line_from : List ℕ → ℕ → ℕ
line_from w zero = 5
line_from w (suc i) = line_from w i + token_end w i * 2 + 1

-- its digits
abbrev pub digits_of : List ℕ → List ℕ → ℕ → List ℕ
digits_of t w i = slice (line_from w i) (line_from w i + token_end w i * 2) t

-- the digits from p up to q can be compared with the lines of the first `count` tokens
pub record Comparable (t w : List ℕ) (count p q : ℕ) : Type 0 where
  pub room : TABLE ≤ length w
  pub few : count ≤ TOKENS
  pub order : p ≤ q
  pub inside : q ≤ length t
  pub lines : line_from w count ≤ length t

-- and the first of them that has these digits can be found: where each line begins is told, and all is near
pub record Searchable (t w : List ℕ) (count p q : ℕ) : Type 0 where
  pub bytes : Comparable t w count p q
  pub near : line_from w count < 4294967296
  pub starts : (j : ℕ) → j < count → get_or w (STARTS_AT + j) 0 ≡ line_from w j
  pub sought : Sought (digits_of t w) w count (slice p q t)

-- r is the ordinal of the first of `count` tokens whose line has the digits s; where there is none, the count
pub record First (t w : List ℕ) (count : ℕ) (s : List ℕ) (r : ℕ) : Type 0 where
  pub within : r ≤ count
  pub before : (i : ℕ) → i < r → same (digits_of t w i) s ≡ false
  pub here : r < count → same (digits_of t w r) s ≡ true

-- r is the number of the name on the line from p up to q, which is to be token `count`
pub record Numbered (t w : List ℕ) (count p q r : ℕ) : Type 0 where
  pub putchar : same (told (slice p q t)) PUTCHAR ≡ true → r ≡ TOKENS
  pub first : same (told (slice p q t)) PUTCHAR ≡ false → First t w count (slice p q t) r

-- r is what the token there, of this kind and itself worth so much, is worth in the table as token `count`
pub record TableWorth (t w : List ℕ) (count kind p q worth r : ℕ) : Type 0 where
  pub name : kind ≡ NAME → Numbered t w count p q r
  pub other : (kind ≡ NAME → ⊥) → r ≡ worth
