-- Counted loops and editions, worked out by computation (Req 12). The rows are the answers of an interpreter that was written
-- from the papers alone.
use mathlib.Core.List.{List, [], ◌∷◌}
use mathlib.Core.Path.{refl}
use lib.IntN.{pos}
use Rattle.worked.proofs.Answers.{Example, example_in, All, worked_out, by_computation}

-- both directions and both marks, with and without a step; a `for` is an Item, and `..` ends a number (R12.3 to R12.7)
abbrev pub forth_and_back : List Example
forth_and_back =
    example_in 2 "for i in 0..3{tt}" 100 0 0 3 (pos 0) 9 []
    ∷ example_in 2 "for i in 0..=3{tt}" 100 0 0 3 (pos 0) 11 []
    ∷ example_in 2 "for i in 3..=0{tt}" 100 0 0 3 (pos 0) 11 []
    ∷ example_in 2 "let s=ref 0 in for i in 1..4{s:=10*(!s)+i};!s" 200 0 0 1 (pos 123) 39 []
    ∷ example_in 2 "let s=ref 0 in for i in 1..=4{s:=10*(!s)+i};!s" 200 0 0 1 (pos 1234) 49 []
    ∷ example_in 2 "let s=ref 0 in for i in 4..1{s:=10*(!s)+i};!s" 200 0 0 1 (pos 432) 39 []
    ∷ example_in 2 "let s=ref 0 in for i in 4..=1{s:=10*(!s)+i};!s" 200 0 0 1 (pos 4321) 49 []
    ∷ example_in 2 "let s=ref 0 in for i in 1..7 by 3{s:=10*(!s)+i};!s" 200 0 0 1 (pos 14) 30 []
    ∷ example_in 2 "let s=ref 0 in for i in 1..=7 by 3{s:=10*(!s)+i};!s" 200 0 0 1 (pos 147) 40 []
    ∷ example_in 2 "let s=ref 0 in for i in 1..=6 by 3{s:=10*(!s)+i};!s" 200 0 0 1 (pos 14) 30 []
    ∷ example_in 2 "let s=ref 0 in for i in 7..1 by-3{s:=10*(!s)+i};!s" 200 0 0 1 (pos 74) 31 []
    ∷ example_in 2 "let s=ref 0 in for i in 7..=1 by-3{s:=10*(!s)+i};!s" 200 0 0 1 (pos 741) 41 []
    ∷ example_in 2 "let s=ref 0 in for i in 0b1..0xa-6{s:=10*(!s)+i};!s" 200 0 0 1 (pos 123) 41 []
    ∷ example_in 2 "for i in 3..0by-1{tt};5" 100 0 0 1 (pos 5) 13 []
    ∷ example_in 2 "if false then tt else for i in 0..1{tt};7" 100 0 0 1 (pos 7) 9 []
    ∷ []

-- a step away from the end, and equal ends (R12.9)
abbrev pub no_way : List Example
no_way =
    example_in 2 "for i in 1..4 by-1{tt}" 100 0 0 3 (pos 0) 5 []
    ∷ example_in 2 "for i in 1..=4 by-1{tt}" 100 0 0 3 (pos 0) 5 []
    ∷ example_in 2 "for i in 4..1 by 1{tt}" 100 0 0 3 (pos 0) 4 []
    ∷ example_in 2 "for i in 4..=1 by 1{tt}" 100 0 0 3 (pos 0) 4 []
    ∷ example_in 2 "for i in 2..2{tt}" 100 0 0 3 (pos 0) 3 []
    ∷ example_in 2 "for i in 2..=2{tt}" 100 0 0 3 (pos 0) 5 []
    ∷ example_in 2 "for i in 2..2 by-1{tt}" 100 0 0 3 (pos 0) 5 []
    ∷ example_in 2 "for i in 5..=5 by-1{tt}" 100 0 0 3 (pos 0) 7 []
    ∷ example_in 2 "for i in 2..=2 by 7{tt}" 100 0 0 3 (pos 0) 6 []
    ∷ []

-- a step of zero, before all of these and behind start, end and step (R12.5, R12.9)
abbrev pub zero_steps : List Example
zero_steps =
    example_in 2 "for i in 0..3 by 0{tt}" 100 58 0 3 (pos 0) 4 []
    ∷ example_in 2 "for i in 3..0 by 0{tt}" 100 58 0 3 (pos 0) 4 []
    ∷ example_in 2 "for i in 2..2 by 0{tt}" 100 58 0 3 (pos 0) 4 []
    ∷ example_in 2 "for i in 2..=2 by 0{tt}" 100 58 0 3 (pos 0) 4 []
    ∷ example_in 2 "tt;for i in 0..3 by 1-1{tt}" 100 58 3 3 (pos 0) 8 []
    ∷ example_in 2 "for i in 1/0..3 by 0{tt}" 100 53 10 3 (pos 0) 4 []
    ∷ example_in 2 "for i in 0..1/0 by 0{tt}" 100 53 13 3 (pos 0) 5 []
    ∷ example_in 2 "for i in 0..3 by 1/0{tt}" 100 53 18 3 (pos 0) 6 []
    ∷ []

-- the ends of int, and steps past them (R12.10)
abbrev pub last_ints : List Example
last_ints =
    example_in 2 "for i in 2147483646..=2147483647{tt}" 100 0 0 3 (pos 0) 7 []
    ∷ example_in 2 "for i in 2147483646..2147483647{tt}" 100 0 0 3 (pos 0) 5 []
    ∷ example_in 2 "for i in -2147483647..=-2147483647-1{tt}" 100 0 0 3 (pos 0) 11 []
    ∷ example_in 2 "for i in 0..=2147483647 by 2147483647{tt}" 100 0 0 3 (pos 0) 8 []
    ∷ example_in 2 "for i in 0..2147483647 by 2147483647{tt}" 100 0 0 3 (pos 0) 6 []
    ∷ example_in 2 "for i in 1..=2147483647 by 2147483647{tt}" 100 0 0 3 (pos 0) 6 []
    ∷ example_in 2 "for i in -1..=-2147483647-1 by-2147483647-1{tt}" 100 0 0 3 (pos 0) 13 []
    ∷ example_in 2 "for i in 0..=-2147483647-1 by-2147483647-1{tt}" 100 0 0 3 (pos 0) 14 []
    ∷ []

-- start, end and step are worked out once; the name hides others, in the body alone; the body is a Block (R12.5, R12.8)
abbrev pub worked_once : List Example
worked_once =
    example_in 2 "let k=ref 1 in let s=ref 0 in for i in 1..=4 by!k{k:=2;s:=10*(!s)+i};!s" 200 0 0 1 (pos 1234) 70 []
    ∷ example_in 2 "let n=ref 3 in for i in 0..!n{n:=9};!n" 200 0 0 1 (pos 9) 22 []
    ∷ example_in 2 "let i=7 in for i in 0..2{tt};i" 100 0 0 1 (pos 7) 11 []
    ∷ example_in 2 "let s=ref 0 in for i in 1..4{let i=i*2 in s:=10*(!s)+i};!s" 200 0 0 1 (pos 246) 51 []
    ∷ example_in 2 "let s=ref 0 in for i in 1..3{for i in 5..7{s:=10*(!s)+i};s:=10*(!s)+i};!s" 200 0 0 1 (pos 561562) 77 []
    ∷ example_in 2 "let s=ref 0 in for i in 1..3{for j in i..=2{s:=10*(!s)+i+j}};!s" 200 0 0 1 (pos 234) 53 []
    ∷ example_in 2 "let r=ref ref 1 in for i in 0..2{r:=ref i};!!r" 100 54 43 1 (pos 0) 21 []
    ∷ example_in 2 "for i in 0..3{if i==2 then let u=1/(i-2) in tt else tt}" 100 53 34 3 (pos 0) 27 []
    ∷ []

-- the `for`, its bounds, and each pass its body: no test and no step costs a unit (R12.8)
abbrev pub loop_units : List Example
loop_units =
    example_in 2 "for i in 0..3{tt}" 9 0 0 3 (pos 0) 9 []
    ∷ example_in 2 "for i in 0..3{tt}" 8 50 14 3 (pos 0) 8 []
    ∷ example_in 2 "for i in 0..3{tt}" 7 50 13 3 (pos 0) 7 []
    ∷ example_in 2 "for i in 0..3{tt}" 3 50 13 3 (pos 0) 3 []
    ∷ example_in 2 "for i in 0..3{tt}" 1 50 9 3 (pos 0) 1 []
    ∷ example_in 2 "for i in 3..3{tt}" 3 0 0 3 (pos 0) 3 []
    ∷ []

-- all three int, the body unit, the name int in the body only; the body is typed before the `for` asks (R12.5)
abbrev pub loop_types : List Example
loop_types =
    example_in 2 "for i in 0.5..3{tt}" 100 33 0 0 (pos 0) 0 []
    ∷ example_in 2 "for i in 0..3.{tt}" 100 33 0 0 (pos 0) 0 []
    ∷ example_in 2 "for i in 0..3 by 1.0{tt}" 100 33 0 0 (pos 0) 0 []
    ∷ example_in 2 "for i in true..3{tt}" 100 33 0 0 (pos 0) 0 []
    ∷ example_in 2 "1;for i in 0..3{i}" 100 33 2 0 (pos 0) 0 []
    ∷ example_in 2 "for i in true..3{i+true}" 100 33 18 0 (pos 0) 0 []
    ∷ example_in 2 "for i in 0..3{tt};i" 100 35 18 0 (pos 0) 0 []
    ∷ example_in 2 "for i in i..3{tt}" 100 35 9 0 (pos 0) 0 []
    ∷ example_in 2 "for i in 0..3 by i{tt}" 100 35 17 0 (pos 0) 0 []
    ∷ example_in 2 "(for i in 0..3{tt})+1" 100 33 19 0 (pos 0) 0 []
    ∷ example_in 2 "for i in x..y by z{w}" 100 35 9 0 (pos 0) 0 []
    ∷ example_in 2 "for i in 1..2 by 3{w}" 100 35 19 0 (pos 0) 0 []
    ∷ []

-- what is split and read, and where that fails (R12.3, R12.4)
abbrev pub loop_texts : List Example
loop_texts =
    example_in 2 "1..5" 100 20 1 0 (pos 0) 0 []
    ∷ example_in 2 "1.5..2" 100 20 3 0 (pos 0) 0 []
    ∷ example_in 2 "1...2" 100 11 3 0 (pos 0) 0 []
    ∷ example_in 2 "for i in 1.5..2{tt}" 100 33 0 0 (pos 0) 0 []
    ∷ example_in 2 "for i in 1...2{tt}" 100 11 12 0 (pos 0) 0 []
    ∷ example_in 2 "for i in 1. ..2{tt}" 100 33 0 0 (pos 0) 0 []
    ∷ example_in 2 "for i in 0...5{tt}" 100 11 12 0 (pos 0) 0 []
    ∷ example_in 2 "for i in 0.. =3{tt}" 100 20 13 0 (pos 0) 0 []
    ∷ example_in 2 "2147483648..3" 100 13 0 0 (pos 0) 0 []
    ∷ example_in 2 "let for=1 in for" 100 20 4 0 (pos 0) 0 []
    ∷ example_in 2 "let by=1 in by" 100 20 4 0 (pos 0) 0 []
    ∷ example_in 2 "for" 100 20 3 0 (pos 0) 0 []
    ∷ example_in 2 "for 1" 100 20 4 0 (pos 0) 0 []
    ∷ example_in 2 "for i=0" 100 20 5 0 (pos 0) 0 []
    ∷ example_in 2 "for i in 0{tt}" 100 20 10 0 (pos 0) 0 []
    ∷ example_in 2 "for i in 0..1..2{tt}" 100 20 13 0 (pos 0) 0 []
    ∷ example_in 2 "for i in 0..1 by 2 by 3{tt}" 100 20 19 0 (pos 0) 0 []
    ∷ example_in 2 "for i in 0..1" 100 20 13 0 (pos 0) 0 []
    ∷ example_in 2 "1+for i in 0..1{tt}" 100 20 2 0 (pos 0) 0 []
    ∷ example_in 2 "for i in let x=1 in x..2{tt}" 100 20 9 0 (pos 0) 0 []
    ∷ example_in 2 "for i in 0..3 tt" 100 20 14 0 (pos 0) 0 []
    ∷ example_in 2 "//1..2" 100 20 6 0 (pos 0) 0 []
    ∷ []

-- edition 1 has none of it (R12.11)
abbrev pub in_edition_1 : List Example
in_edition_1 =
    example_in 1 "let for=1 in for" 100 0 0 1 (pos 1) 3 []
    ∷ example_in 1 "let by=2 in by" 100 0 0 1 (pos 2) 3 []
    ∷ example_in 1 "def for(by:int):int{by+1}for(1)" 100 0 0 1 (pos 2) 6 []
    ∷ example_in 1 "for i in 0..3{tt}" 100 11 11 0 (pos 0) 0 []
    ∷ example_in 1 "for" 100 35 0 0 (pos 0) 0 []
    ∷ example_in 1 "for(1)" 100 36 0 0 (pos 0) 0 []
    ∷ example_in 1 "1..5" 100 11 2 0 (pos 0) 0 []
    ∷ example_in 1 "1.5..2" 100 11 3 0 (pos 0) 0 []
    ∷ []

-- and there is no other edition (R12.2)
abbrev pub no_edition : List Example
no_edition =
    example_in 0 "1" 100 42 0 0 (pos 0) 0 []
    ∷ example_in 3 "1" 100 42 0 0 (pos 0) 0 []
    ∷ example_in 3 "#" 100 42 0 0 (pos 0) 0 []
    ∷ []

pub all_forth_and_back : All forth_and_back
unfolding worked_out
all_forth_and_back = by_computation forth_and_back refl refl

pub all_no_way : All no_way
unfolding worked_out
all_no_way = by_computation no_way refl refl

pub all_zero_steps : All zero_steps
unfolding worked_out
all_zero_steps = by_computation zero_steps refl refl

pub all_last_ints : All last_ints
unfolding worked_out
all_last_ints = by_computation last_ints refl refl

pub all_worked_once : All worked_once
unfolding worked_out
all_worked_once = by_computation worked_once refl refl

pub all_loop_units : All loop_units
unfolding worked_out
all_loop_units = by_computation loop_units refl refl

pub all_loop_types : All loop_types
unfolding worked_out
all_loop_types = by_computation loop_types refl refl

pub all_loop_texts : All loop_texts
unfolding worked_out
all_loop_texts = by_computation loop_texts refl refl

pub all_in_edition_1 : All in_edition_1
unfolding worked_out
all_in_edition_1 = by_computation in_edition_1 refl refl

pub all_no_edition : All no_edition
unfolding worked_out
all_no_edition = by_computation no_edition refl refl
