-- The executable twin in edition 1 and under the box's sizes, for those who name neither.
use mathlib.Core.List.{List}
use mathlib.Core.Path.{◌≡◌}
use Prim.Native.Nat.{ℕ}
use Rattle.language.proofs.Text.Marks.{laws_1}
use Rattle.language.proofs.Text.Scanner as Scanner
pub use Rattle.language.proofs.Text.Scanner.{Result}
pub use Rattle.language.proofs.Text.Scanner.Result.{split, flawed}
use Rattle.language.specs.Sizes.{BOX}
use Rattle.language.specs.Text.{Flaw, Splits, Flawed}
use Rattle.language.specs.Tokens.{EDITION_1, Token}

-- the answer for a text
unfoldable pub scan : List ℕ → Result
unfolding Scanner.scan
scan t = Scanner.scan BOX EDITION_1 t

-- what an answer says
abbrev pub Says : List ℕ → Result → Type 0
Says t r = Scanner.Says BOX EDITION_1 t r

-- what the scan answers is so
pub scanned : (t : List ℕ) → Says t (scan t)
unfolding scan
scanned t = Scanner.scanned laws_1 BOX t

-- so what it computes to is so
pub computed : (t : List ℕ) (r : Result) → scan t ≡ r → Says t r
unfolding scan
computed t r e = Scanner.computed laws_1 BOX t r e

-- a split of the text is the answer
pub split_scanned : {t : List ℕ} {ts : List Token} → Splits EDITION_1 t ts → scan t ≡ split ts
unfolding scan
split_scanned s = Scanner.split_scanned laws_1 s

-- a flaw of the text is the answer
pub flaw_scanned : {t : List ℕ} {f : Flaw} {p : ℕ} → Flawed EDITION_1 t f p → scan t ≡ flawed f p
unfolding scan
flaw_scanned s = Scanner.flaw_scanned laws_1 s
