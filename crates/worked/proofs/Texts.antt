-- Texts whose tokens, or whose flaw and its place, are computed by the executable twin.
use mathlib.Core.List.{[], ◌∷◌}
use mathlib.Core.Path.{refl}
use Prim.Native.Nat.{ℕ}
use Prim.Native.String.{String}
use Rattle.language.proofs.Text.Edition.{scan, computed}
use Rattle.language.proofs.Text.Scanner.Result.{split, flawed}
use Rattle.language.specs.Text.{Splits, Flawed}
use Rattle.language.specs.Text.Flaw.{strange_byte, open_comment, large_number}
use Rattle.language.specs.Tokens.{EDITION_1, spell, Token, NAME, NUMBER, LET, WHILE, TT, PLUS, EQUAL, BECOMES}

-- a token of kind k and value v, spelled w, at p
abbrev a : ℕ → ℕ → String → ℕ → Token
a k v w p = record { kind = k; value = v; spelling = spell w; place = p }

-- each `/*` wants its own `*/`, and a byte belongs to one mark only
pub two_open : Flawed EDITION_1 (spell "/*/*/") open_comment 0
unfolding scan
two_open = computed (spell "/*/*/") (flawed open_comment 0) refl

-- a comment within a comment
pub nested : Splits EDITION_1 (spell "/* /* */ */1") (a NUMBER 1 "1" 11 ∷ [])
unfolding scan
nested = computed (spell "/* /* */ */1") (split (a NUMBER 1 "1" 11 ∷ [])) refl

-- `//` within a comment is nothing of its own
pub line_in_comment : Flawed EDITION_1 (spell "/*//*/7") open_comment 0
unfolding scan
line_in_comment = computed (spell "/*//*/7") (flawed open_comment 0) refl

-- the first number that cannot be written
pub number_too_large : Flawed EDITION_1 (spell "2147483648") large_number 0
unfolding scan
number_too_large = computed (spell "2147483648") (flawed large_number 0) refl

-- and the last one that can
pub number_largest : Splits EDITION_1 (spell "2147483647+1") (a NUMBER 2147483647 "2147483647" 0 ∷ a PLUS 0 "+" 10 ∷ a NUMBER 1 "1" 11 ∷ [])
unfolding scan
number_largest =
    computed (spell "2147483647+1") (split (a NUMBER 2147483647 "2147483647" 0 ∷ a PLUS 0 "+" 10 ∷ a NUMBER 1 "1" 11 ∷ [])) refl

-- one `&` is no mark
pub lone_byte : Flawed EDITION_1 (spell "1 & 2") strange_byte 2
unfolding scan
lone_byte = computed (spell "1 & 2") (flawed strange_byte 2) refl

-- the longest mark counts
pub becomes : Splits EDITION_1 (spell "let x:=1") (a LET 0 "let" 0 ∷ a NAME 0 "x" 4 ∷ a BECOMES 0 ":=" 5 ∷ a NUMBER 1 "1" 7 ∷ [])
unfolding scan
becomes =
    computed (spell "let x:=1") (split (a LET 0 "let" 0 ∷ a NAME 0 "x" 4 ∷ a BECOMES 0 ":=" 5 ∷ a NUMBER 1 "1" 7 ∷ [])) refl

-- of two `=` too
pub equal : Splits EDITION_1 (spell "a==b") (a NAME 0 "a" 0 ∷ a EQUAL 0 "==" 1 ∷ a NAME 0 "b" 3 ∷ [])
unfolding scan
equal = computed (spell "a==b") (split (a NAME 0 "a" 0 ∷ a EQUAL 0 "==" 1 ∷ a NAME 0 "b" 3 ∷ [])) refl

-- a text without a byte has no token
pub no_byte : Splits EDITION_1 (spell "") []
unfolding scan
no_byte = computed (spell "") (split []) refl

-- a line comment ends with its line
pub line_ends : Splits EDITION_1 (spell "while//x\ntt") (a WHILE 0 "while" 0 ∷ a TT 0 "tt" 9 ∷ [])
unfolding scan
line_ends = computed (spell "while//x\ntt") (split (a WHILE 0 "while" 0 ∷ a TT 0 "tt" 9 ∷ [])) refl

-- a letter behind a digit begins a name
pub number_name : Splits EDITION_1 (spell "1x") (a NUMBER 1 "1" 0 ∷ a NAME 0 "x" 1 ∷ [])
unfolding scan
number_name = computed (spell "1x") (split (a NUMBER 1 "1" 0 ∷ a NAME 0 "x" 1 ∷ [])) refl
