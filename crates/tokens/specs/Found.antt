-- What the answers of this crate's functions say: each of what stands at the place p of the text t, or of the spellings
-- of the tokens that a table w holds. Vocabulary for contracts between the functions; the language does not know it.
use Rattle.std.specs.Prelude.{Option, Some, None, Result, Ok, Err, length, Bool, true, false, ◌&&◌, List, ◌≡◌, eqb, ℕ, ◌+◌, ◌-◌, ◌≤◌, ◌<◌}
use Rattle.std.proofs.Math.Seq.{slice}
use Rattle.std.proofs.Math.Option as Written
use Rattle.std.proofs.Math.Option.{none, some}
use Prim.Native.Char.{code}
use Rattle.language.proofs.Text.Runs.{Run}
use Rattle.language.specs.Sizes.{TOKENS, TABLE, LARGEST, DIGITS}
use Rattle.language.specs.Text as Text
use Rattle.language.specs.Text.{byte, is_digit, is_digit_of, is_name_byte, is_in_line, Comment, Content, Form}
use Rattle.language.specs.Text.Content.{space, token}
use Rattle.language.specs.Tokens as Tokens
use Rattle.language.specs.Tokens.{Vocabulary, Spelling, same, NAME, FLOAT_NUMBER}
use Rattle.language.specs.Trees.{PUTCHAR}
use Rattle.layout.specs.Names.{float_bits}
use Rattle.layout.specs.Table.{token_place, token_end}
use Rattle.numbers.specs.Meanings.{flaw_meant}
use Rattle.numbers.specs.declared.Flaw.{Flaw}
use Rattle.tokens.specs.Forks.{Sought}
use Rattle.tokens.specs.declared.comments.Pair as pair
use Rattle.tokens.specs.declared.comments.Pair.TheVariants.{Opens, Closes, Neither}
use Rattle.tokens.specs.declared.marks.Mark.{Mark}
use Rattle.tokens.specs.declared.pieces.Piece as piece
use Rattle.tokens.specs.declared.pieces.Piece.TheVariants.{Space, Token}

-- ---- what stands at a place

-- the bytes that are asked for by themselves
abbrev pub POINT : ℕ
POINT = code "."

abbrev pub STROKE : ℕ
STROKE = code "/"

-- no form of the language begins at p
abbrev pub Formless : Vocabulary → List ℕ → ℕ → Type 0
Formless voc t p = (q : ℕ) (c : Content) → Form voc t p q c → ⊥

-- the number at p, whose digits stand from `from` up to q, goes on with a point of its own
unfoldable pub has_point : Vocabulary → List ℕ → (p from q : ℕ) → Bool
has_point voc t p from q = eqb from p && (eqb (byte t q) (code ".") && voc.points (byte t (q + 1)))

-- all digits from p on, up to the point at m
pub record PointAt (voc : Vocabulary) (t : List ℕ) (p m : ℕ) : Type 0 where
  pub some : p < m
  pub digits : Run is_digit t p m
  pub point : byte t m ≡ code "."
  pub own : voc.points (byte t (m + 1)) ≡ true

-- a float number from p up to q, with its point at m and no more digits than it may have
pub record Decimal (t : List ℕ) (p m q : ℕ) : Type 0 where
  pub before : p < m
  pub behind : m < q
  pub inside : q ≤ length t
  pub few : q - p ≤ DIGITS + 1
  pub point : byte t m ≡ code "."
  pub digits : (i : ℕ) → p ≤ i → i < q → (i ≡ m → ⊥) → is_digit (byte t i) ≡ true

abbrev pub IsPair : List ℕ → ℕ → pair.Pair → Type 0
IsPair t p Opens = Text.Opens t p
IsPair t p Closes = Text.Closes t p
IsPair t p Neither = (Text.Opens t p → ⊥) × (Text.Closes t p → ⊥)

abbrev pub IsClose : List ℕ → ℕ → Option ℕ → Type 0
IsClose t p (Some q) = Comment t p q
IsClose t p None = (q : ℕ) → Comment t p q → ⊥

-- the code's option is the language's
abbrev pub Gives : Written.Option ℕ → Option ℕ → Type 0
Gives o None = o ≡ none
Gives o (Some n) = o ≡ some n

abbrev pub IsMark : Vocabulary → List ℕ → ℕ → Option Mark → Type 0
IsMark voc t p (Some m) = Text.Piece voc t p (p + m.size) (token m.kind 0)
IsMark voc t p None = Formless voc t p

-- a token of this kind from p up to q, and what it is worth: of a float number the bits, of any other its value
pub record IsToken (voc : Vocabulary) (t : List ℕ) (p kind q worth : ℕ) : Type 0 where
  pub value : ℕ
  pub piece : Text.Piece voc t p q (token kind value)
  pub small : value ≤ LARGEST
  pub float : kind ≡ FLOAT_NUMBER → worth ≡ float_bits (slice p q t)
  pub other : (kind ≡ FLOAT_NUMBER → ⊥) → worth ≡ value

abbrev pub IsPiece : Vocabulary → List ℕ → ℕ → Result piece.Piece Flaw → Type 0
IsPiece voc t p (Ok (Space q)) = Text.Piece voc t p q space
IsPiece voc t p (Ok (Token k q x)) = IsToken voc t p k q x
IsPiece voc t p (Err f) = (ts : List Tokens.Token) → Text.Wrong voc t p ts (flaw_meant f)

-- ---- spellings by a table

-- the bytes of each of the first `count` tokens lie in the text
abbrev pub Spans : List ℕ → List ℕ → ℕ → Type 0
Spans t w count = (i : ℕ) → i < count → (token_place w i ≤ token_end w i) × (token_end w i ≤ length t)

-- a spelling can be compared with those of the first `count` tokens
pub record Comparable (t w : List ℕ) (count : ℕ) : Type 0 where
  pub room : TABLE ≤ length w
  pub few : count ≤ TOKENS
  pub spans : Spans t w count

-- the spelling of token i
abbrev pub bytes_of : List ℕ → List ℕ → ℕ → Spelling
bytes_of t w i = slice (token_place w i) (token_end w i) t

-- and the first of them that is spelled so can be found
pub record Searchable (t w : List ℕ) (count : ℕ) (s : Spelling) : Type 0 where
  pub bytes : Comparable t w count
  pub sought : Sought (bytes_of t w) w count s

-- r is the ordinal of the first of `count` tokens that is spelled s; where there is none, the count
pub record First (t w : List ℕ) (count : ℕ) (s : Spelling) (r : ℕ) : Type 0 where
  pub within : r ≤ count
  pub before : (i : ℕ) → i < r → same (bytes_of t w i) s ≡ false
  pub here : r < count → same (bytes_of t w r) s ≡ true

-- r is the number of the name s, which is to be token `count`
pub record Numbered (t w : List ℕ) (count : ℕ) (s : Spelling) (r : ℕ) : Type 0 where
  pub putchar : same s PUTCHAR ≡ true → r ≡ TOKENS
  pub first : same s PUTCHAR ≡ false → First t w count s r

-- r is what a token of this kind and spelling, itself worth so much, is worth in the table as token `count`
pub record TableWorth (t w : List ℕ) (count kind : ℕ) (s : Spelling) (worth r : ℕ) : Type 0 where
  pub name : kind ≡ NAME → Numbered t w count s r
  pub other : (kind ≡ NAME → ⊥) → r ≡ worth
