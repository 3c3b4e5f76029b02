-- How the bytes of a text split into tokens by a vocabulary, and the five things that stop a split (S009 to S021; rows
-- 11 to 15). Places are byte offsets. What a piece of text may be is said by its form; that the longest form counts is
-- said once.
use Rattle.std.specs.Prelude.{Bool, true, cond, ◌&&◌, ◌||◌, not, List, [], ◌∷◌, ◌++◌, ◌≡◌, ℕ, ◌+◌, ◌*◌, ◌-◌, ◌≤◌, ◌<◌, eqb, leb, ltb, length, get_or}
use Rattle.std.proofs.Math.Option.{Option, none, some}
use Prim.Native.Char.{Char, code}
use Rattle.std.proofs.Math.Seq.{slice}
use Rattle.language.specs.Sizes.{Sizes, BOX, LARGEST, DIGITS}
use Rattle.language.specs.Tokens.{Spelling, spell, Vocabulary, Token, NAME, NUMBER, FLOAT_NUMBER, spelled}

-- ---- bytes

-- the byte at p; past the end 0, which begins no token, no comment and no blank, and is in no mark
abbrev pub byte : List ℕ → ℕ → ℕ
byte t p = get_or t p 0

unfoldable pub between : Char → Char → ℕ → Bool
between low high b = leb (code low) b && leb b (code high)

-- S009
unfoldable pub is_blank : ℕ → Bool
is_blank b = eqb b (code " ") || eqb b (code "\t") || eqb b (code "\r") || eqb b (code "\n")

-- S011
unfoldable pub is_letter : ℕ → Bool
is_letter b = between "A" "Z" b || between "a" "z" b

unfoldable pub is_digit : ℕ → Bool
is_digit b = between "0" "9" b

unfoldable pub is_name_byte : ℕ → Bool
is_name_byte b = is_letter b || is_digit b || eqb b (code "_")

-- R06.2: letters of both cases go on behind the digit 9
unfoldable pub is_hex_digit : ℕ → Bool
is_hex_digit b = is_digit b || between "A" "F" b || between "a" "f" b

-- what such a digit is worth
unfoldable pub worth : ℕ → ℕ
worth b = cond (leb b (code "9")) (b - code "0") (cond (leb b (code "F")) (b - code "A" + 10) (b - code "a" + 10))

-- the digits of a base are worth less than it
unfoldable pub is_digit_of : ℕ → ℕ → Bool
is_digit_of base b = is_hex_digit b && ltb (worth b) base

-- S020: not the LF that ends a line
unfoldable pub is_in_line : ℕ → Bool
is_in_line b = not (eqb b (code "\n"))

-- every byte from p up to q, q not among them, is of the class f
abbrev pub Each : (ℕ → Bool) → List ℕ → ℕ → ℕ → Type 0
Each f t p q = (k : ℕ) → k < q → p ≤ k → f (byte t k) ≡ true

-- the bytes of s stand at p
abbrev pub Stands : List ℕ → ℕ → Spelling → Type 0
Stands t p [] = Unit {0}
Stands t p (b ∷ s) = (byte t p ≡ b) × Stands t (p + 1) s

-- ---- comments (S019, S021)

abbrev pub Opens : List ℕ → ℕ → Type 0
Opens t p = Stands t p (spell "/*")

abbrev pub Closes : List ℕ → ℕ → Type 0
Closes t p = Stands t p (spell "*/")

-- The inside of a comment from p up to q: bytes at which neither mark stands, and whole comments. Each mark takes its
-- two bytes, so what follows one begins behind them.
pub data Inside (t : List ℕ) : ℕ → ℕ → Type 0 where
  ended : {p : ℕ} → Inside t p p
  any_byte : {p q : ℕ} → p < length t → (Opens t p → ⊥) → (Closes t p → ⊥) → Inside t (p + 1) q → Inside t p q
  nested : {p m q : ℕ} → Opens t p → Inside t (p + 2) m → Closes t m → Inside t (m + 2) q → Inside t p q

-- a whole comment from p up to q
pub record Comment (t : List ℕ) (p q : ℕ) : Type 0 where
  pub at : ℕ
  pub opens : Opens t p
  pub inside : Inside t (p + 2) at
  pub closes : Closes t at
  pub ends : q ≡ at + 2

-- ---- pieces

-- what a piece of text comes to: no token, a comment that is still open, a float number of too many digits, or a token
-- with its kind and value
pub data Content : Type 0 where
  space unclosed overlong : Content
  token : (kind value : ℕ) → Content

-- S012: a name that is a reserved word has the word's kind
abbrev pub or_name : Option ℕ → ℕ
or_name none = NAME
or_name (some k) = k

-- S015, R06.2: digits over a base, read on from the number n
unfoldable pub number_from : (base : ℕ) → ℕ → Spelling → ℕ
number_from base n [] = n
number_from base n (d ∷ s) = number_from base (n * base + worth d) s

-- R08.2: a float number of n bytes, of which the point is no digit; what it is worth is said by its spelling
abbrev pub float_content : ℕ → Content
float_content n = cond (leb n (DIGITS + 1)) (token FLOAT_NUMBER 0) overlong

-- the bytes from p up to q are there, one at least
pub record Within (t : List ℕ) (p q : ℕ) : Type 0 where
  pub some : p < q
  pub inside : q ≤ length t

abbrev pub token_of : List ℕ → ℕ → ℕ → ℕ → ℕ → Token
token_of t p q k v = record { kind = k; value = v; spelling = slice p q t; place = p }

-- what stops a split (rows 11 to 15)
pub data Flaw : Type 0 where
  strange_byte open_comment large_number many_tokens long_float : Flaw

module _ (voc : Vocabulary) where
  unfoldable pub word_kind : Spelling → ℕ
  word_kind s = or_name (spelled voc.words s)

  -- the bytes from p up to q have a form that comes to c, be there a longer one or not
  pub data Form (t : List ℕ) (p q : ℕ) : Content → Type 0 where
    blank : p < length t → is_blank (byte t p) ≡ true → q ≡ p + 1 → Form t p q space
    line : Stands t p (spell "//") → p + 2 ≤ q → q ≤ length t → Each is_in_line t (p + 2) q → Form t p q space
    comment : Comment t p q → Form t p q space
    unended : Opens t p → ((e : ℕ) → Comment t p e → ⊥) → q ≡ length t → Form t p q unclosed
    name : Within t p q → is_letter (byte t p) ≡ true → Each is_name_byte t p q
        → Form t p q (token (word_kind (slice p q t)) 0)
    number : Within t p q → Each is_digit t p q → Form t p q (token NUMBER (number_from 10 0 (slice p q t)))
    -- R06.2, R06.4: its first two bytes tell the base, and a digit follows them
    based : {base : ℕ} → spelled voc.bases (slice p (p + 2) t) ≡ some base → Within t (p + 2) q
        → Each (is_digit_of base) t (p + 2) q → Form t p q (token NUMBER (number_from base 0 (slice (p + 2) q t)))
    -- R08.2: digits, a point at m, and any digits
    float : {m : ℕ} → voc.points (byte t (m + 1)) ≡ true → Within t p m → Each is_digit t p m → byte t m ≡ code "."
        → m < q → q ≤ length t
        → Each is_digit t (m + 1) q → Form t p q (float_content (q - p))
    mark : {k : ℕ} → Within t p q → spelled voc.marks (slice p q t) ≡ some k → Form t p q (token k 0)

  -- S010: and no form at p is longer
  pub record Piece (t : List ℕ) (p q : ℕ) (c : Content) : Type 0 where
    pub form : Form t p q c
    pub longest : (e : ℕ) (d : Content) → Form t p e d → e ≤ q

  -- the first p bytes split into the tokens ts
  pub data Reaches (t : List ℕ) : ℕ → List Token → Type 0 where
    start : Reaches t 0 []
    skip : {p q : ℕ} {ts : List Token} → Reaches t p ts → Piece t p q space → Reaches t q ts
    next : {p q k v : ℕ} {ts us : List Token} → Reaches t p ts → Piece t p q (token k v) → v ≤ LARGEST
        → us ≡ ts ++ (token_of t p q k v ∷ []) → Reaches t q us

  -- the whole text splits into the tokens ts, however many they are
  abbrev pub SplitsWhole : List ℕ → List Token → Type 0
  SplitsWhole t ts = Reaches t (length t) ts

-- ---- under sizes

module _ (σ : Sizes) (voc : Vocabulary) where
  -- it does, and the tokens are not too many
  pub record SplitsUnder (t : List ℕ) (ts : List Token) : Type 0 where
    pub whole : SplitsWhole voc t ts
    pub few : length ts ≤ σ.tokens

  -- what is wrong at p, with the tokens ts before it
  pub data WrongUnder (t : List ℕ) (p : ℕ) (ts : List Token) : Flaw → Type 0 where
    strange : p < length t → ((q : ℕ) (c : Content) → Form voc t p q c → ⊥) → WrongUnder t p ts strange_byte
    opened : {q : ℕ} → Piece voc t p q unclosed → WrongUnder t p ts open_comment
    long : {q : ℕ} → Piece voc t p q overlong → WrongUnder t p ts long_float
    large : {q k v : ℕ} → Piece voc t p q (token k v) → LARGEST < v → WrongUnder t p ts large_number
    many : {q k v : ℕ} → Piece voc t p q (token k v) → v ≤ LARGEST → length ts ≡ σ.tokens
        → WrongUnder t p ts many_tokens

  -- the split comes as far as p, and there stands this flaw
  pub record FlawedUnder (t : List ℕ) (f : Flaw) (p : ℕ) : Type 0 where
    pub tokens : List Token
    pub before : Reaches voc t p tokens
    pub few : length tokens ≤ σ.tokens
    pub here : WrongUnder t p tokens f

-- under the box's sizes
abbrev pub Splits : Vocabulary → List ℕ → List Token → Type 0
Splits = SplitsUnder BOX

abbrev pub Wrong : Vocabulary → List ℕ → ℕ → List Token → Flaw → Type 0
Wrong = WrongUnder BOX

abbrev pub Flawed : Vocabulary → List ℕ → Flaw → ℕ → Type 0
Flawed = FlawedUnder BOX
