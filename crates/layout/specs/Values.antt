-- Values in words: a tag and two words, and what they stand for.
use Rattle.std.specs.Prelude.{Bool, true, false, cond, ◌≡◌, ℕ, ◌+◌, ◌*◌, ◌/◌, ◌%◌, eqb}
use Rattle.std.specs.Float.{binary64}
use Rattle.std.specs.Float.Ieee.{of_bits, to_bits}
use Rattle.std.specs.Int.{w32}
use Rattle.std.proofs.Common.{to_z, of_z}
use Rattle.language.specs.State as State
use Rattle.language.specs.State.{number, float, flag, nothing, cell}
use Rattle.layout.specs.declared.values.Value.{Value}
use Rattle.layout.specs.declared.values.Value.TheVariants.{Int, Float, Flag, Nothing, Cell}

-- one more than the largest word
abbrev pub HALF : ℕ
HALF = 4294967296

-- the value of the language that the code's value is
abbrev pub meant : Value → State.Value
meant (Int z) = number z
meant (Float x) = float x
meant (Flag b) = flag b
meant Nothing = nothing
meant (Cell n) = cell n

abbrev pub tag_of : Value → ℕ
tag_of (Int z) = 0
tag_of (Flag b) = 1
tag_of Nothing = 2
tag_of (Float x) = 3
tag_of (Cell n) = 4

abbrev pub bit : Bool → ℕ
bit true = 1
bit false = 0

abbrev pub low_of : Value → ℕ
low_of (Int z) = of_z w32 z
low_of (Float x) = to_bits binary64 x % HALF
low_of (Flag b) = bit b
low_of Nothing = 0
low_of (Cell n) = n

-- only a float needs a second word
abbrev pub high_of : Value → ℕ
high_of (Int z) = 0
high_of (Float x) = to_bits binary64 x / HALF
high_of (Flag b) = 0
high_of Nothing = 0
high_of (Cell n) = 0

-- the value that a tag and two words stand for
abbrev pub value_in : ℕ → ℕ → ℕ → State.Value
value_in tag low high =
    cond (eqb tag 0) (number (to_z w32 low))
    (cond (eqb tag 1) (flag (eqb low 1))
    (cond (eqb tag 2) nothing
    (cond (eqb tag 3) (float (of_bits binary64 (HALF * high + low))) (cell low))))

-- the words of v stand for v
abbrev pub Survives : Value → Type 0
Survives v = value_in (tag_of v) (low_of v) (high_of v) ≡ meant v
