-- Examples of floats, worked out by computation (Req 08): each operation, rounding, infinities, not-a-numbers, -0, and what is
-- refused. A float's value is its 64 bits.
use mathlib.Core.List.{List, [], ◌∷◌}
use mathlib.Core.Path.{refl}
use lib.IntN.{pos}
use Rattle.worked.proofs.Answers.{Example, example, All, worked_out, by_computation}

abbrev pub floats : List Example
floats =
    example "12.0" 100 0 0 4 (pos 0x4028_0000_0000_0000) 1 []
    ∷ example "12." 100 0 0 4 (pos 0x4028_0000_0000_0000) 1 []
    ∷ example "3.25" 100 0 0 4 (pos 0x400a_0000_0000_0000) 1 []
    ∷ example "0.1" 100 0 0 4 (pos 0x3fb9_9999_9999_999a) 1 []
    ∷ example "2147483648." 100 0 0 4 (pos 0x41e0_0000_0000_0000) 1 []
    ∷ example "0.1+0.2" 100 0 0 4 (pos 0x3fd3_3333_3333_3334) 3 []
    ∷ example "1.-3.25" 100 0 0 4 (pos 0xc002_0000_0000_0000) 3 []
    ∷ example "70000.*3.25" 100 0 0 4 (pos 0x410b_c560_0000_0000) 3 []
    ∷ example "1./3." 100 0 0 4 (pos 0x3fd5_5555_5555_5555) 3 []
    ∷ example "1./0." 100 0 0 4 (pos 0x7ff0_0000_0000_0000) 3 []
    ∷ example "0./0." 100 0 0 4 (pos 0x7ff8_0000_0000_0000) 3 []
    ∷ example "0.*(0.-1.)" 100 0 0 4 (pos 0x8000_0000_0000_0000) 6 []
    ∷ example "1.5<2.5" 100 0 0 2 (pos 1) 3 []
    ∷ example "0./0.<1." 100 0 0 2 (pos 0) 5 []
    ∷ example "ref 1.5" 100 0 0 12 (pos 1) 2 []
    ∷ example "let x=ref 1.5 in x:= !x+1.;!x" 100 0 0 4 (pos 0x4004_0000_0000_0000) 12 []
    ∷ example "def f(x:float):float{x*2.}f(2.5)" 100 0 0 4 (pos 0x4014_0000_0000_0000) 6 []
    ∷ []

-- what is refused: no mixing, `==` and one-operand minus for ints alone, too many digits, a point too many
abbrev pub refused_floats : List Example
refused_floats =
    example "1+1.0" 100 33 1 0 (pos 0) 0 []
    ∷ example "1.0+1" 100 33 3 0 (pos 0) 0 []
    ∷ example "1.0==1.0" 100 33 3 0 (pos 0) 0 []
    ∷ example "-1.0" 100 33 0 0 (pos 0) 0 []
    ∷ example ".5" 100 11 0 0 (pos 0) 0 []
    ∷ example "1.5.2" 100 11 3 0 (pos 0) 0 []
    ∷ example "1.x" 100 20 2 0 (pos 0) 0 []
    ∷ example "1+123456789012345.6" 100 15 2 0 (pos 0) 0 []
    ∷ example "000000000000000.0" 100 15 0 0 (pos 0) 0 []
    ∷ example "00000000000000.0<1." 100 0 0 2 (pos 1) 3 []
    ∷ []

pub all_floats : All floats
unfolding worked_out
all_floats = by_computation floats refl refl

pub all_refused : All refused_floats
unfolding worked_out
all_refused = by_computation refused_floats refl refl
