-- Further examples, beside the paper's: one at least for each operator, each rule and each number that those leave out, so
-- that constants and arithmetic are pinned by proof. The rows are the answers of an interpreter that was written from the
-- paper alone. Left out, as too large to compute: 10, 14 and 55; of 10 there is a law
-- at the end. Of no text with memory enough are 40 and 41 told.
use mathlib.Core.List.{List, [], ◌∷◌, ◌++◌}
use mathlib.Core.Option.{some}
use mathlib.Core.Path.{◌≡◌, refl}
use Prim.Native.Nat.{ℕ, ◌<◌}
use Prim.Native.String.{String}
use lib.IntN.{pos, negsuc}
use lib.ListN.{length}
use Rattle.language.specs.Sizes.{Sizes}
use Rattle.language.specs.Tokens.{Vocabulary}
use Rattle.language.specs.Numbers.{long_source}
use Rattle.language.specs.Answers.{RefusedUnder, by_origin, too_long}
use Rattle.language.specs.Edition.{edition, known, text_in_under}
use Rattle.worked.proofs.Answers.{Example, example, All, worked_out, by_computation}

-- numbers and their operators: S015, S032 to S034, S039, S059
abbrev pub arithmetic : List Example
arithmetic =
    example "1-2-3" 100 0 0 1 (negsuc 3) 5 []
    ∷ example "8/2/2" 100 0 0 1 (pos 2) 5 []
    ∷ example "7-2*3" 100 0 0 1 (pos 1) 5 []
    ∷ example "(2+3)*4" 100 0 0 1 (pos 20) 6 []
    ∷ example "2*3" 100 0 0 1 (pos 6) 3 []
    ∷ example "7/2" 100 0 0 1 (pos 3) 3 []
    ∷ example "-7/-2" 100 0 0 1 (pos 3) 5 []
    ∷ example "7/-2" 100 0 0 1 (negsuc 2) 4 []
    ∷ example "- -3" 100 0 0 1 (pos 3) 3 []
    ∷ example "007" 100 0 0 1 (pos 7) 1 []
    ∷ example "46341*46341" 100 52 5 1 (pos 0) 3 []
    ∷ example "0-2147483647-2" 100 52 12 1 (pos 0) 5 []
    ∷ example "-(-2147483647-1)" 100 52 0 1 (pos 0) 6 []
    ∷ example "(-2147483647-1)/-1" 100 52 15 1 (pos 0) 8 []
    ∷ example "7/0" 100 53 1 1 (pos 0) 3 []
    ∷ example "-2147483647*1" 100 0 0 1 (negsuc 2147483646) 4 []
    ∷ []

-- comparisons and truths: S029 to S031, S046, S052, S055
abbrev pub truths : List Example
truths =
    example "1<2" 100 0 0 2 (pos 1) 3 []
    ∷ example "2<2" 100 0 0 2 (pos 0) 3 []
    ∷ example "-1<1" 100 0 0 2 (pos 1) 4 []
    ∷ example "2<-1" 100 0 0 2 (pos 0) 4 []
    ∷ example "1==2" 100 0 0 2 (pos 0) 3 []
    ∷ example "2==2" 100 0 0 2 (pos 1) 3 []
    ∷ example "1+1==2" 100 0 0 2 (pos 1) 5 []
    ∷ example "not true" 100 0 0 2 (pos 0) 2 []
    ∷ example "not not true" 100 0 0 2 (pos 1) 3 []
    ∷ example "true&&false" 100 0 0 2 (pos 0) 3 []
    ∷ example "true&&true" 100 0 0 2 (pos 1) 3 []
    ∷ example "false||true" 100 0 0 2 (pos 1) 3 []
    ∷ example "false||false" 100 0 0 2 (pos 0) 3 []
    ∷ example "false&&1/0==0" 100 0 0 2 (pos 0) 2 []
    ∷ example "true||1/0==0" 100 0 0 2 (pos 1) 2 []
    ∷ example "true||true&&false" 100 0 0 2 (pos 1) 2 []
    ∷ example "false&&true||true" 100 0 0 2 (pos 1) 4 []
    ∷ example "1<2&&2<1" 100 0 0 2 (pos 0) 7 []
    ∷ []

-- what is bound, grouped and put one behind the other: S025 to S028, S043, S047, S053, S058
abbrev pub sequences : List Example
sequences =
    example "let x=1 in let x=2 in x" 100 0 0 1 (pos 2) 5 []
    ∷ example "let x=1 in (let x=2 in x)+x" 100 0 0 1 (pos 3) 8 []
    ∷ example "let x=let y=2 in y in x+1" 100 0 0 1 (pos 3) 7 []
    ∷ example "{1}" 100 0 0 1 (pos 1) 2 []
    ∷ example "tt;tt;3" 100 0 0 1 (pos 3) 5 []
    ∷ example "if true then 1 else 2" 100 0 0 1 (pos 1) 3 []
    ∷ example "if false then 1 else if 1<2 then 2 else 3" 100 0 0 1 (pos 2) 7 []
    ∷ example "if true then 1/0 else 2" 100 53 14 1 (pos 0) 5 []
    ∷ example "while false{tt}" 100 0 0 3 (pos 0) 2 []
    ∷ example "let x=ref 2 in while 0<!x{x:=!x-1};!x" 100 0 0 1 (pos 0) 33 []
    ∷ []

-- a let behind `else`: R05.2, R05.3
abbrev pub lets_after_else : List Example
lets_after_else =
    example "if true then tt else let x=1 in tt; tt" 100 0 0 3 (pos 0) 3 []
    ∷ example "if false then tt else let x=1 in tt; tt" 100 0 0 3 (pos 0) 7 []
    ∷ example "if true then tt else let x=1 in tt;5" 100 33 0 0 (pos 0) 0 []
    ∷ example "if false then 1 else if false then 2 else let x=3 in x" 100 0 0 1 (pos 3) 7 []
    ∷ example "(if false then 1 else let x=2 in x)+1" 100 0 0 1 (pos 3) 8 []
    ∷ example "tt;if false then 1 else let x=tt in x;2" 100 0 0 1 (pos 2) 9 []
    ∷ example "if false then 1 else (let x=tt in x);2" 100 33 0 0 (pos 0) 0 []
    ∷ example "def f(b:bool):int{if b then 1 else let x=2 in x}f(false)" 100 0 0 1 (pos 2) 8 []
    ∷ example "putchar(if false then 65 else let x=66 in x)" 100 0 0 1 (pos 66) 6 (66 ∷ [])
    ∷ example "while if false then true else let x=false in x{tt}" 100 0 0 3 (pos 0) 6 []
    ∷ []

-- cells: S040, S060 to S064, S066, S067
abbrev pub cells : List Example
cells =
    example "ref 5" 100 0 0 9 (pos 1) 2 []
    ∷ example "!ref 5+1" 100 0 0 1 (pos 6) 5 []
    ∷ example "ref ref true" 100 0 0 18 (pos 2) 3 []
    ∷ example "let x=ref 1 in x:=2;!x" 100 0 0 1 (pos 2) 9 []
    ∷ example "ref 1:=2" 100 0 0 3 (pos 0) 4 []
    ∷ example "let x={ref 1} in ref 2" 100 0 0 9 (pos 2) 6 []
    ∷ example "let x={ref 1} in !x" 100 54 17 1 (pos 0) 6 []
    ∷ example "let x={ref 1} in x:=1/0" 100 53 21 3 (pos 0) 9 []
    ∷ example "let x={ref 1} in x:=2" 100 54 18 3 (pos 0) 7 []
    ∷ example "let x=ref 1 in let y={ref 2} in let z=ref 3 in !x+!z" 100 0 0 1 (pos 4) 15 []
    ∷ example "let x={ref 1} in let y=ref 2 in !x" 100 54 32 1 (pos 0) 9 []
    ∷ example "ref ref ref ref ref ref ref ref ref ref ref ref ref ref ref 1" 100 0 0 121 (pos 15) 16 []
    ∷ []

-- functions and printing: S023, S048, S049, S057, S065
abbrev pub calls : List Example
calls =
    example "def f(x:int):int{x+1}f(2)" 100 0 0 1 (pos 3) 6 []
    ∷ example "def f(x:int,y:int):int{x-y}f(5,3)" 100 0 0 1 (pos 2) 7 []
    ∷ example "def f(n:int):int{if n<1 then 0 else n+f(n-1)}f(2)" 100 0 0 1 (pos 3) 30 []
    ∷ example "def f():int{1}let f=2 in f+f()" 100 0 0 1 (pos 3) 7 []
    ∷ example "def f(x:int):int{x}def g(x:int):int{f(x)*2}g(4)" 100 0 0 1 (pos 8) 9 []
    ∷ example "def p(c:int):unit{let d=putchar(c) in tt}p(72);p(105)" 100 0 0 3 (pos 0) 15 (72 ∷ 105 ∷ [])
    ∷ example "putchar(0)+putchar(255)" 100 0 0 1 (pos 255) 5 (0 ∷ 255 ∷ [])
    ∷ example "putchar(256)" 100 56 0 1 (pos 0) 2 []
    ∷ example "putchar(-1)" 100 56 0 1 (pos 0) 3 []
    ∷ example "putchar(65)" 100 57 0 1 (pos 0) 2 []
    ∷ example "1+2" 0 50 1 1 (pos 0) 0 []
    ∷ example "1+2" 1 50 0 1 (pos 0) 1 []
    ∷ example "1+2" 2 50 2 1 (pos 0) 2 []
    ∷ example "1+2" 3 0 0 1 (pos 3) 3 []
    ∷ example "def f():int{f()}f()" 3 50 11 1 (pos 0) 3 []
    ∷ []

-- bytes and tokens: S009 to S021; 11, 12, 13
abbrev pub texts : List Example
texts =
    example "1\t+\r\n2" 100 0 0 1 (pos 3) 3 []
    ∷ example "1//2" 100 0 0 1 (pos 1) 1 []
    ∷ example "1//2\n+3" 100 0 0 1 (pos 4) 3 []
    ∷ example "1/*//a*/+2" 100 0 0 1 (pos 3) 3 []
    ∷ example "1/*//*/+2" 100 12 1 0 (pos 0) 0 []
    ∷ example "let aB_9=3 in aB_9" 100 0 0 1 (pos 3) 3 []
    ∷ example "letx" 100 35 0 0 (pos 0) 0 []
    ∷ example "1~2" 100 11 1 0 (pos 0) 0 []
    ∷ example "1&2" 100 11 1 0 (pos 0) 0 []
    ∷ example "1|2" 100 11 1 0 (pos 0) 0 []
    ∷ example "1 /*" 100 12 2 0 (pos 0) 0 []
    ∷ example "/*/**/" 100 12 0 0 (pos 0) 0 []
    ∷ example "1+2147483648" 100 13 2 0 (pos 0) 0 []
    ∷ example "0002147483647" 100 0 0 1 (pos 2147483647) 1 []
    ∷ []

-- what is no program: 20
abbrev pub readings : List Example
readings =
    example "1+" 100 20 2 0 (pos 0) 0 []
    ∷ example "1;" 100 20 2 0 (pos 0) 0 []
    ∷ example "1;)" 100 20 2 0 (pos 0) 0 []
    ∷ example "()" 100 20 1 0 (pos 0) 0 []
    ∷ example "{}" 100 20 1 0 (pos 0) 0 []
    ∷ example "(1" 100 20 2 0 (pos 0) 0 []
    ∷ example "1<2==3" 100 20 3 0 (pos 0) 0 []
    ∷ example "let x=1" 100 20 7 0 (pos 0) 0 []
    ∷ example "let do=1 in 1" 100 20 4 0 (pos 0) 0 []
    ∷ example "let float=1 in 1" 100 20 4 0 (pos 0) 0 []
    ∷ example "if true then 1" 100 20 14 0 (pos 0) 0 []
    ∷ example "while true do tt end" 100 20 11 0 (pos 0) 0 []
    ∷ example "let x=ref 1 in x:=x:=1" 100 20 19 0 (pos 0) 0 []
    ∷ example "1+let x=1 in x" 100 20 2 0 (pos 0) 0 []
    ∷ example "def f(){1}1" 100 20 7 0 (pos 0) 0 []
    ∷ example "def f():int{1}" 100 20 14 0 (pos 0) 0 []
    ∷ example "x=1" 100 20 1 0 (pos 0) 0 []
    ∷ []

-- functions that are refused: 30 to 34 at their place
abbrev pub names : List Example
names =
    example "def f(a:int,b:int,c:int,d:int,e:int,g:int,h:int,i:int,j:int):int{1}1" 100 30 54 0 (pos 0) 0 []
    ∷ example "def f():int{1}def f():int{2}3" 100 31 18 0 (pos 0) 0 []
    ∷ example "def putchar():int{1}1" 100 31 4 0 (pos 0) 0 []
    ∷ example "def f(x:int,x:bool):int{1}1" 100 32 12 0 (pos 0) 0 []
    ∷ example "def f():int{true}1" 100 33 0 0 (pos 0) 0 []
    ∷ example "def f():int{g()}def g():int{1}f()" 100 36 12 0 (pos 0) 0 []
    ∷ example "def f():int{x}let x=1 in f()" 100 35 12 0 (pos 0) 0 []
    ∷ example "def f(x:int):int{x}f()" 100 37 19 0 (pos 0) 0 []
    ∷ example "def f(x:int):int{x}f(true)" 100 33 19 0 (pos 0) 0 []
    ∷ example "def f(x:int ref ref ref ref ref ref ref ref ref ref ref ref ref ref ref ref ):int{1}1" 100 34 6 0 (pos 0) 0 []
    ∷ example "def f():int ref ref ref ref ref ref ref ref ref ref ref ref ref ref ref ref {1}1" 100 34 0 0 (pos 0) 0 []
    ∷ example "ref ref ref ref ref ref ref ref ref ref ref ref ref ref ref ref 1" 100 34 0 0 (pos 0) 0 []
    ∷ []

-- what has no type: 33
abbrev pub types : List Example
types =
    example "x" 100 35 0 0 (pos 0) 0 []
    ∷ example "f()" 100 36 0 0 (pos 0) 0 []
    ∷ example "putchar" 100 35 0 0 (pos 0) 0 []
    ∷ example "-true" 100 33 0 0 (pos 0) 0 []
    ∷ example "not 1==2" 100 33 0 0 (pos 0) 0 []
    ∷ example "!1" 100 33 0 0 (pos 0) 0 []
    ∷ example "1+true" 100 33 1 0 (pos 0) 0 []
    ∷ example "true<1" 100 33 4 0 (pos 0) 0 []
    ∷ example "true==true" 100 33 4 0 (pos 0) 0 []
    ∷ example "1&&true" 100 33 1 0 (pos 0) 0 []
    ∷ example "1:=2" 100 33 1 0 (pos 0) 0 []
    ∷ example "let x=ref 1 in x:=true" 100 33 16 0 (pos 0) 0 []
    ∷ example "1;2" 100 33 1 0 (pos 0) 0 []
    ∷ example "if 1 then 2 else 3" 100 33 0 0 (pos 0) 0 []
    ∷ example "if true then 1 else tt" 100 33 0 0 (pos 0) 0 []
    ∷ example "while 1{tt}" 100 33 0 0 (pos 0) 0 []
    ∷ example "while true{1}" 100 33 0 0 (pos 0) 0 []
    ∷ example "ref 1+2" 100 33 5 0 (pos 0) 0 []
    ∷ example "x+true" 100 35 0 0 (pos 0) 0 []
    ∷ example "true+x" 100 35 5 0 (pos 0) 0 []
    ∷ []

-- sizes: 30 for a 33rd function, 51
abbrev joined : String → String → String
joined String.[] t = t
joined (String.◌∷◌ c s) t = String.◌∷◌ c (joined s t)

abbrev functions : String
functions =
    joined "def aa():int{1}def ab():int{1}def ac():int{1}def ad():int{1}def ae():int{1}def af():int{1}def ag():int{1}" (
    joined "def ah():int{1}def ai():int{1}def aj():int{1}def ak():int{1}def al():int{1}def am():int{1}def an():int{1}" (
    joined "def ao():int{1}def ap():int{1}def aq():int{1}def ar():int{1}def as():int{1}def at():int{1}def au():int{1}" (
    joined "def av():int{1}def aw():int{1}def ax():int{1}def ay():int{1}def az():int{1}def ba():int{1}def bb():int{1}" (
    "def bc():int{1}def bd():int{1}def be():int{1}def bf():int{1}def bg():int{1}1"))))

abbrev pub sizes : List Example
sizes =
    example functions 100 30 480 0 (pos 0) 0 []
    ∷ example "def f():int{f()}f()" 1000 51 12 1 (pos 0) 513 []
    ∷ []

-- ---- the statement

abbrev pub further : List Example
further =
    arithmetic ++ truths ++ sequences ++ lets_after_else ++ cells ++ calls ++ texts ++ readings ++ names ++ types ++ sizes

pub all_further : All further
unfolding worked_out
all_further = by_computation further refl refl

-- and 10 at 0 for every text longer than a source may be, under any sizes
pub long_refused : {σ : Sizes} {n : ℕ} {voc : Vocabulary} {source : List ℕ} → edition n ≡ some voc → σ.source < length source
    → RefusedUnder σ (text_in_under σ n source) long_source 0
long_refused e h = by_origin (known e (too_long h))
