-- What a token is, and the words and marks whose spelling gives them a kind of their own (S011 to S018).
use Rattle.std.specs.Prelude.{Bool, true, false, cond, not, ◌&&◌, List, [], ◌∷◌, ◌≡◌, ℕ, eqb, get_or}
use Rattle.std.proofs.Math.Option.{Option, none, some}
use Prim.Native.Char.{code}
use Prim.Native.String.{String}

-- ---- spellings

-- bytes as they stand in a text
abbrev pub Spelling : Type 0
Spelling = List ℕ

-- the bytes of a quoted text of ASCII characters
abbrev pub spell : String → Spelling
spell String.[] = []
spell (String.◌∷◌ c s) = code c ∷ spell s

unfoldable pub same : Spelling → Spelling → Bool
same [] [] = true
same [] (y ∷ ys) = false
same (x ∷ xs) [] = false
same (x ∷ xs) (y ∷ ys) = eqb x y && same xs ys

-- ---- kinds

-- what stands past the last token; a name; a number
abbrev pub PAST : ℕ
PAST = 0

abbrev pub NAME : ℕ
NAME = 1

abbrev pub NUMBER : ℕ
NUMBER = 2

-- the reserved words
abbrev pub DEF : ℕ
DEF = 3

abbrev pub LET : ℕ
LET = 4

abbrev pub IN : ℕ
IN = 5

abbrev pub WHILE : ℕ
WHILE = 6

abbrev pub DO : ℕ
DO = 7

abbrev pub END : ℕ
END = 8

abbrev pub IF : ℕ
IF = 9

abbrev pub THEN : ℕ
THEN = 10

abbrev pub ELSE : ℕ
ELSE = 11

abbrev pub REF : ℕ
REF = 12

abbrev pub NOT : ℕ
NOT = 13

abbrev pub INT : ℕ
INT = 14

abbrev pub BOOL : ℕ
BOOL = 15

abbrev pub TRUE : ℕ
TRUE = 16

abbrev pub FALSE : ℕ
FALSE = 17

abbrev pub UNIT : ℕ
UNIT = 18

abbrev pub TT : ℕ
TT = 19

abbrev pub FLOAT : ℕ
FLOAT = 20

-- the marks
abbrev pub PLUS : ℕ
PLUS = 21

abbrev pub MINUS : ℕ
MINUS = 22

abbrev pub STAR : ℕ
STAR = 23

abbrev pub SLASH : ℕ
SLASH = 24

abbrev pub AND : ℕ
AND = 25

abbrev pub OR : ℕ
OR = 26

abbrev pub LESS : ℕ
LESS = 27

abbrev pub EQUAL : ℕ
EQUAL = 28

abbrev pub BECOMES : ℕ
BECOMES = 29

abbrev pub IS : ℕ
IS = 30

abbrev pub BANG : ℕ
BANG = 31

abbrev pub SEMI : ℕ
SEMI = 32

abbrev pub COMMA : ℕ
COMMA = 33

abbrev pub COLON : ℕ
COLON = 34

abbrev pub LPAR : ℕ
LPAR = 35

abbrev pub RPAR : ℕ
RPAR = 36

abbrev pub LBRACE : ℕ
LBRACE = 37

abbrev pub RBRACE : ℕ
RBRACE = 38

-- a number with a point (R08.2); `float` is the word
abbrev pub FLOAT_NUMBER : ℕ
FLOAT_NUMBER = 39

-- the words and marks of counted loops (R12.3); 40 to 42 are the code's, for rows that are no node's
abbrev pub FOR : ℕ
FOR = 43

abbrev pub BY : ℕ
BY = 44

abbrev pub UPTO : ℕ
UPTO = 45

abbrev pub THROUGH : ℕ
THROUGH = 46

-- a row of a table: this stands for that
infix 70 ◌is◌
pub data Entry (A B : Type 0) : Type 0 where
  ◌is◌ : A → B → Entry A B

-- S013, S014: `do` and `end` are reserved and used nowhere
abbrev pub words : List (Entry String ℕ)
words =
    "def" is DEF ∷ "let" is LET ∷ "in" is IN ∷ "while" is WHILE ∷ "do" is DO ∷ "end" is END ∷ "if" is IF ∷
    "then" is THEN ∷ "else" is ELSE ∷ "ref" is REF ∷ "not" is NOT ∷ "int" is INT ∷ "bool" is BOOL ∷
    "true" is TRUE ∷ "false" is FALSE ∷ "unit" is UNIT ∷ "tt" is TT ∷ "float" is FLOAT ∷ []

-- S017
abbrev pub marks : List (Entry String ℕ)
marks =
    "+" is PLUS ∷ "-" is MINUS ∷ "*" is STAR ∷ "/" is SLASH ∷ "&&" is AND ∷ "||" is OR ∷ "<" is LESS ∷
    "==" is EQUAL ∷ ":=" is BECOMES ∷ "=" is IS ∷ "!" is BANG ∷ ";" is SEMI ∷ "," is COMMA ∷ ":" is COLON ∷
    "(" is LPAR ∷ ")" is RPAR ∷ "{" is LBRACE ∷ "}" is RBRACE ∷ []

-- R06.2: what stands before the digits of a number whose base is not ten, and the base
abbrev pub bases : List (Entry String ℕ)
bases = "0x" is 16 ∷ "0b" is 2 ∷ []

-- An edition of the language is a vocabulary: tables of its words, of its marks and of its bases, and where a number
-- may have a point. All else that is said of texts is the same in every edition.
pub record Vocabulary : Type 0 where
  pub words : List (Entry String ℕ)
  pub marks : List (Entry String ℕ)
  pub bases : List (Entry String ℕ)
  -- whether a point that this byte follows may belong to a number
  pub points : ℕ → Bool

abbrev pub EDITION_1 : Vocabulary
EDITION_1 = record { words = words; marks = marks; bases = bases; points = λ _. true }

-- R12.3; R12.4: digits before `..` are an int
abbrev pub EDITION_2 : Vocabulary
EDITION_2 = record {
  words = "for" is FOR ∷ "by" is BY ∷ words;
  marks = "..=" is THROUGH ∷ ".." is UPTO ∷ marks;
  bases = bases;
  points = λ b. not (eqb b (code "."));
}

-- R12.2: the vocabulary that a caller's number names
unfoldable pub edition : ℕ → Option Vocabulary
edition n = cond (eqb n 1) (some EDITION_1) (cond (eqb n 2) (some EDITION_2) none)

-- the kind that a table of spellings gives
unfoldable pub spelled : List (Entry String ℕ) → Spelling → Option ℕ
spelled [] s = none
spelled ((w is k) ∷ rows) s = cond (same (spell w) s) (some k) (spelled rows s)

-- what a table of kinds gives
unfoldable pub entry : {A : Type 0} → List (Entry ℕ A) → ℕ → Option A
entry [] k = none
entry ((c is a) ∷ rows) k = cond (eqb k c) (some a) (entry rows k)

-- ---- tokens

pub record Token : Type 0 where
  pub kind : ℕ
  -- of a number what it is worth, else 0
  pub value : ℕ
  pub spelling : Spelling
  -- the byte of the text at which it begins
  pub place : ℕ

-- Token i of a list, and past the last one a token of no kind. All that comes after Text names a token by this ordinal.
abbrev pub past : Token
past = record { kind = PAST; value = 0; spelling = []; place = 0 }

unfoldable pub kind_at : List Token → ℕ → ℕ
kind_at ts i = (get_or ts i past).kind

unfoldable pub value_at : List Token → ℕ → ℕ
value_at ts i = (get_or ts i past).value

unfoldable pub spelling_at : List Token → ℕ → Spelling
spelling_at ts i = (get_or ts i past).spelling

unfoldable pub place_at : List Token → ℕ → ℕ
place_at ts i = (get_or ts i past).place

-- token i is of kind k
abbrev pub At : List Token → ℕ → ℕ → Type 0
At ts i k = kind_at ts i ≡ k

-- token i is of a kind that the table has, and stands for a
abbrev pub Means : {A : Type 0} → List Token → ℕ → List (Entry ℕ A) → A → Type 0
Means ts i rows a = entry rows (kind_at ts i) ≡ some a

-- ---- places aside

-- one token, wherever it stands
pub record SameToken (t u : Token) : Type 0 where
  pub kind : t.kind ≡ u.kind
  pub value : t.value ≡ u.value
  pub spelling : t.spelling ≡ u.spelling

-- the same tokens one after the other, but for their places
pub data SameButPlaces : List Token → List Token → Type 0 where
  same_none : SameButPlaces [] []
  same_more : {t u : Token} {ts us : List Token} → SameToken t u → SameButPlaces ts us → SameButPlaces (t ∷ ts) (u ∷ us)
