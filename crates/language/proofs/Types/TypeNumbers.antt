-- A type is told by its number, which the code uses for it: `ref` adds 8, `!` takes it away.
use mathlib.Core.Path.{◌≡◌, refl, ap}
use Prim.Native.Nat.{◌+◌, ◌*◌, ◌≤◌}
use native.Mathlib.Omega.{arith}
use Rattle.language.specs.Sizes.{REFS}
use Rattle.language.specs.Trees.{Ty, int, bool, unit, float, ref, refs}
use Rattle.language.specs.Meaning.{type_number}

pub one_number : (t u : Ty) → type_number t ≡ type_number u → t ≡ u
unfolding type_number
one_number int int e = refl
one_number int bool e = absurd (omega arith)
one_number int unit e = absurd (omega arith)
one_number int float e = absurd (omega arith)
one_number int (ref u) e = absurd (omega arith)
one_number bool int e = absurd (omega arith)
one_number bool bool e = refl
one_number bool unit e = absurd (omega arith)
one_number bool float e = absurd (omega arith)
one_number bool (ref u) e = absurd (omega arith)
one_number unit int e = absurd (omega arith)
one_number unit bool e = absurd (omega arith)
one_number unit unit e = refl
one_number unit float e = absurd (omega arith)
one_number unit (ref u) e = absurd (omega arith)
one_number float int e = absurd (omega arith)
one_number float bool e = absurd (omega arith)
one_number float unit e = absurd (omega arith)
one_number float float e = refl
one_number float (ref u) e = absurd (omega arith)
one_number (ref t) int e = absurd (omega arith)
one_number (ref t) bool e = absurd (omega arith)
one_number (ref t) unit e = absurd (omega arith)
one_number (ref t) float e = absurd (omega arith)
one_number (ref t) (ref u) e = ap ref (one_number t u (omega arith))

-- between 1 and 4 over 8 times its `ref`
pub number_refs : (t : Ty) → (8 * refs t + 1 ≤ type_number t) × (type_number t ≤ 8 * refs t + 4)
unfolding type_number refs
number_refs int = (omega arith, omega arith)
number_refs bool = (omega arith, omega arith)
number_refs unit = (omega arith, omega arith)
number_refs float = (omega arith, omega arith)
number_refs (ref t) = let h = number_refs t in (omega (arith, h.0), omega (arith, h.1))

-- so at most 124 where at most 15
pub number_most : (t : Ty) → refs t ≤ REFS → type_number t ≤ 124
number_most t h = let k = number_refs t in omega (arith, k.1)
