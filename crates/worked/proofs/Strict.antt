-- Sheets that have a reading and no type, by the written meaning and by the stricter one: a part that stops the run keeps the
-- written meaning from something wrong before it, and the stricter one finds that first (R11.2). So the stricter one asks more, and
-- that the two are the same for a sheet that passed says something of each of these.
use mathlib.Core.Bool.{Bool, true, false, ◌&&◌}
use mathlib.Core.List.{List, [], ◌∷◌}
use mathlib.Core.Path.{◌≡◌, refl}
use Prim.Native.Nat.{ℕ}
use Prim.Native.String.{String}
use lib.Dec.{eqb}
use Rattle.language.specs.Sizes.{BOX}
use Rattle.language.specs.Tokens.{EDITION_2, Entry, ◌is◌, spell, same, spelled, entry, kind_at, value_at, spelling_at}
use Rattle.language.specs.Trees.{Program, own, nearest}
use Rattle.language.specs.State.{Outcome, value, stop, stuck, then, choose, when_some, alike, only}
use Rattle.language.specs.Numbers.{stop_number}
use Rattle.language.specs.Meaning.{charge, begin, in_range, fit, is_zero, same_int, apply_unary, quotient, apply_binary, settles, emit, put}
use Rattle.language.specs.Meaning.{literal_value, towards, with_bounds, due, enter, arguments, invoke, passes, turns, step, eval, functions, run}
use Rattle.language.proofs.Text.Scanner.{scan, Result}
use Rattle.language.proofs.Text.Scanner.Result.{split, flawed}
use Rattle.language.proofs.Executable.Parses as Parses
use Rattle.language.proofs.Executable.Parser as Parser
use Rattle.language.proofs.Grammar.FirstWrong.{comes_to}
use Rattle.language.proofs.Meaning.StrictMeaning.{suits, of_kind, takes_of, as_many, bound_types, strict_each, strict_all, strict_step}
use Rattle.language.proofs.Meaning.StrictMeaning.{strict_eval, strict_run}

-- how a run ends: with a value 0, with a stop its number, and 1 where it is stuck
abbrev end : Outcome → ℕ
end (value v s) = 0
end (stop w i s) = stop_number w
end stuck = 1

abbrev of_program : Parses.Result Program → ℕ → ℕ → Bool
of_program (Parses.failed k) n m = false
of_program (Parses.got p j) n m = eqb (end (run p 100 10)) n && eqb (end (strict_run p 100 10)) m

abbrev of_text : Result → ℕ → ℕ → Bool
of_text (split ts) n m = of_program (comes_to ts) n m
of_text (flawed f p) n m = false

-- every text of a table ends as it says by the two meanings
unfoldable pub ends : List (Entry String (Entry ℕ ℕ)) → Bool
unfolding scan Parser.parse Parser.step Parses.then Parses.test Parses.look Parses.need kind_at value_at spelling_at entry same
    spelled nearest own run eval begin charge functions step then choose settles alike quotient apply_binary apply_unary only
    when_some literal_value in_range fit put emit enter arguments invoke passes towards with_bounds due turns is_zero same_int
    suits of_kind takes_of as_many bound_types strict_each strict_all strict_step strict_eval strict_run
ends [] = true
ends ((source is (n is m)) ∷ rows) = of_text (scan BOX EDITION_2 (spell source)) n m && ends rows

-- each is 53 by the written meaning, and stuck before the division by the stricter one
pub examples_stuck :
    ends
    ("true+1/0" is (53 is 1) ∷ "1&&1/0==1" is (53 is 1) ∷ "for i in true..1/0{tt}" is (53 is 1) ∷ "for i in 0..tt by 1/0{tt}" is (53 is 1) ∷
    "g(1/0)" is (53 is 1) ∷ "putchar(tt,1/0)" is (53 is 1) ∷ "putchar(1/0,1)" is (53 is 1) ∷ "def f(x:int,y:int):int{x}f(true,1/0)" is (53 is 1) ∷
    "def f(x:int ref,y:int):int{y}f(1,1/0)" is (53 is 1) ∷ "def f(x:int,y:int):int{x}f(1/0)" is (53 is 1) ∷ [])
    ≡ true
unfolding ends
examples_stuck = refl

-- and where the written meaning asks at once the two are stuck alike, or end alike
pub examples_alike :
    ends
    ("1+tt" is (1 is 1) ∷ "if 1 then 1/0 else 2" is (1 is 1) ∷ "1;1/0" is (1 is 1) ∷ "while 1{1/0}" is (1 is 1) ∷ "-true" is (1 is 1) ∷
    "for i in 0..2{i}" is (1 is 1) ∷ "for i in 0..2 by 0{tt}" is (58 is 58) ∷ "def f(x:int,y:int):int{x}f(1,2)" is (0 is 0) ∷ [])
    ≡ true
unfolding ends
examples_alike = refl
