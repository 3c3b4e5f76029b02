-- Texts and what is written of their tokens: one table, and one statement over the whole of it, by computation.
use mathlib.Core.Bool.{Bool, true, false, ◌&&◌}
use mathlib.Core.List.{List, [], ◌∷◌}
use mathlib.Core.Path.{◌≡◌, refl}
use Prim.Native.Nat.{ℕ}
use Prim.Native.String.{String}
use Rattle.language.specs.Tokens.{Entry, ◌is◌, spell, same}
use Rattle.language.specs.Writing.{behind, written_out}
use Rattle.language.proofs.Text.Edition.{scan, Result, split, flawed}

abbrev gives : Result → List ℕ → Bool
gives (split ts) text = same (written_out ts) text
gives (flawed f p) text = false

-- every text of a table is written as it says
unfoldable pub written : List (Entry String String) → Bool
unfolding scan written_out behind same
written [] = true
written ((source is text) ∷ rows) = gives (scan (spell source)) (spell text) && written rows

pub examples_written :
    written
    ("1" is "1\n" ∷ "f(1,x)" is "f ( 1 , x )\n" ∷ "\t1+ 2\r\n\n" is "1 + 2\n" ∷ "1/2//half" is "1 / 2\n" ∷
    "/* a /* b */ */-007" is "- 007\n" ∷ "x:=!y;x : = y" is "x := ! y ; x : = y\n" ∷ "a==b=c" is "a == b = c\n" ∷
    "1x if_ if" is "1 x if_ if\n" ∷ "{tt}&&not true||false" is "{ tt } && not true || false\n" ∷ [])
    ≡ true
unfolding written
examples_written = refl
