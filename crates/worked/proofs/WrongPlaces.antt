-- Examples of the place of 20 (R01), by computation: texts, and the ordinal of the first token with which no program goes on.
use mathlib.Core.Path.{◌≡◌, refl, subst}
use mathlib.Core.List.{List, [], ◌∷◌}
use mathlib.Core.Option.{Option, none, some, none-ne-some}
use Prim.Native.Nat.{ℕ}
use Prim.Native.String.{String}
use Rattle.language.specs.Tokens.{EDITION_1, Token, Entry, ◌is◌, spell, same, spelled, entry, kind_at, value_at, spelling_at}
use Rattle.language.specs.Text.{Splits}
use Rattle.language.specs.Trees.{Program}
use Rattle.language.specs.Starts.{FirstWrong}
use Rattle.language.proofs.Text.Edition as Scanner
use Rattle.language.proofs.Text.Edition.{scan, scanned}
use Rattle.language.proofs.Executable.Parses as Parses
use Rattle.language.proofs.Executable.Parser as Parser
use Rattle.language.proofs.Executable.Settles.{Settles}
use Rattle.language.proofs.Meaning.CellTypes.{some_one}
use Rattle.language.proofs.Grammar.FirstWrong.{comes_to, place, settled}

abbrev pub texts : List (Entry String ℕ)
texts =
    "1;)" is 2 ∷ "1<2<3" is 3 ∷ "1<2==3" is 3 ∷ "1+" is 2 ∷ "" is 0 ∷ " //1" is 0 ∷ ")" is 0 ∷ "1 2" is 1 ∷ "1;" is 2 ∷ "()" is 1 ∷
    "{}" is 1 ∷ "(1" is 2 ∷ "x=1" is 1 ∷ "x:=y:=1" is 3 ∷ "f(1,)" is 4 ∷ "let x=1" is 4 ∷ "let do=1 in 1" is 1 ∷ "1+let x=1 in x" is 2 ∷
    "if true then 1" is 4 ∷ "if true then 1 else let x=1" is 9 ∷ "if true then 1 else let x=1 in x else 2" is 11 ∷
    "if true then 1 else 2+let x=1 in x" is 7 ∷ "while true do tt end" is 2 ∷ "def f(){1}1" is 4 ∷
    "def f():int{1}" is 9 ∷ "def f(x:int,):int{1}1" is 7 ∷ "1 def f():int{1}" is 1 ∷ []

-- the text splits into tokens, and these first go wrong at i
abbrev pub Wrong : String → ℕ → Type 0
Wrong s i = (ts : List Token) × Splits EDITION_1 (spell s) ts × FirstWrong ts i

abbrev pub All : List (Entry String ℕ) → Type 0
All [] = Unit {0}
All ((s is i) ∷ rows) = Wrong s i × All rows

-- the ordinal, worked out
abbrev ordinal : Parses.Result Program → Option ℕ
ordinal (Parses.failed k) = some k
ordinal (Parses.got p j) = none

unfoldable of_text : Scanner.Result → Option ℕ
of_text (Scanner.split ts) = ordinal (comes_to ts)
of_text (Scanner.flawed f i) = none

unfoldable worked : List (Entry String ℕ) → List (Option ℕ)
unfolding of_text scan Parser.parse Parser.step Parses.then Parses.test Parses.look Parses.need kind_at value_at spelling_at
    entry same spelled
worked [] = []
worked ((s is i) ∷ rows) = of_text (scan (spell s)) ∷ worked rows

abbrev ordinals : List (Entry String ℕ) → List (Option ℕ)
ordinals [] = []
ordinals ((s is i) ∷ rows) = some i ∷ ordinals rows

list_right : (ts : List Token) (i : ℕ) (r : Parses.Result Program) → Settles ts Parser.entire 0 r → ordinal r ≡ some i → FirstWrong ts i
list_right ts i (Parses.failed k) x e = subst (FirstWrong ts) (some_one e) (place ts x)
list_right ts i (Parses.got p j) x e = absurd (none-ne-some i e)

text_right : (s : String) (i : ℕ) (r : Scanner.Result) → Scanner.Says (spell s) r → of_text r ≡ some i → Wrong s i
unfolding of_text
text_right s i (Scanner.split ts) a e = (ts, a, list_right ts i (comes_to ts) (settled ts) e)
text_right s i (Scanner.flawed f p) a e = absurd (none-ne-some i e)

first : {x y : Option ℕ} {xs ys : List (Option ℕ)} → (x ∷ xs) ≡ (y ∷ ys) → x ≡ y
first e = cc

later : {x y : Option ℕ} {xs ys : List (Option ℕ)} → (x ∷ xs) ≡ (y ∷ ys) → xs ≡ ys
later e = cc

rows_right : (rows : List (Entry String ℕ)) → worked rows ≡ ordinals rows → All rows
unfolding worked
rows_right [] e = tt
rows_right ((s is i) ∷ rows) e = (text_right s i (scan (spell s)) (scanned (spell s)) (first e), rows_right rows (later e))

-- all of them
pub all_wrong : All texts
unfolding worked
all_wrong = rows_right texts refl
