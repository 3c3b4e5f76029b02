-- The value that a run ends with is of the program's type.
use mathlib.Core.Path.{◌≡◌, refl, subst}
use mathlib.Core.Bool.{Bool, true}
use mathlib.Core.List.{List, []}
use mathlib.Core.Option.{Option, none, some}
use Prim.Native.Nat.{ℕ, ◌^◌, ◌≤◌, ◌<◌}
use native.Mathlib.Omega.{arith}
use lib.IntN.{ℤ, pos}
use lib.Dec.{T}
use lib.Ieee.{Float, binary64, fits, to_bits, of_bits}
use lib.Ieee.Bits.{to_bits-lt, of_bits-to_bits}
use borrow.Author.Tests.{le-leb}
use Rattle.language.specs.Sizes.{Sizes, LARGEST}
use Rattle.language.specs.Tokens.{Token, value_at}
use Rattle.language.specs.Trees.{Ty, int, bool, unit, float, ref, Program}
use Rattle.language.specs.Grammar.{Reading}
use Rattle.language.specs.Types.{HasTypeUnder}
use Rattle.language.specs.State.{Value, number, flag, nothing, cell, held, State, value}
use Rattle.language.specs.Meaning.{in_range, run, value_number}
use Rattle.language.proofs.Grammar.OwnTokens.{program_owns, all_same}
use Rattle.language.proofs.Grammar.OwnOnce.{own_inside}
use Rattle.language.proofs.Meaning.CellTypes.{Asked, born_first, born_le, Fits, fits_int, fits_float}
use Rattle.language.proofs.Meaning.CellTypes.{fits_bool, fits_unit, fits_ref, StateFits, held_fits}
use Rattle.language.proofs.Meaning.Safety.{Wide, Good, good_value, Fair}
use Rattle.language.proofs.Meaning.NeverStuck.{run_good}

-- A value of a type, in a state of a run: an int is in the range, a float is one of 64 bits, and a reference has a birth number that was given to a cell
-- which is freed, or is live and holds a value of the type referred to; so to any depth.
pub data OfType (s : State) : Ty → Value → Type 0 where
  of_int : {z : ℤ} → in_range z ≡ true → OfType s int (number z)
  of_float : {x : Float} → T (fits binary64 x) → OfType s float (Value.float x)
  of_bool : {b : Bool} → OfType s bool (flag b)
  of_unit : OfType s unit nothing
  of_freed : {t : Ty} {b : ℕ} → 1 ≤ b → b ≤ s.births → held b s.cells ≡ none → OfType s (ref t) (cell b)
  of_live : {t : Ty} {b : ℕ} {v : Value} → 1 ≤ b → b ≤ s.births → held b s.cells ≡ some v → OfType s t v → OfType s (ref t) (cell b)

abbrev InRange : Asked
InRange = record { ints = λ z. in_range z ≡ true; floats = λ x. T (fits binary64 x) }

module _ {Σ : List Ty} {s : State} (p : StateFits InRange Σ s) where
  an_int : {v : Value} → Fits InRange Σ v int → OfType s int v
  an_int (fits_int r) = of_int r

  a_float : {v : Value} → Fits InRange Σ v float → OfType s float v
  a_float (fits_float r) = of_float r

  a_bool : {v : Value} → Fits InRange Σ v bool → OfType s bool v
  a_bool fits_bool = of_bool

  a_unit : {v : Value} → Fits InRange Σ v unit → OfType s unit v
  a_unit fits_unit = of_unit

  a_cell : {t : Ty} {v : Value} → Fits InRange Σ v (ref t) → ((w : Value) → Fits InRange Σ w t → OfType s t w) → OfType s (ref t) v
  a_cell {t} (fits_ref {b} n) deeper = by (held b s.cells) refl
    where
      most : b ≤ s.births
      most = omega (arith, born_le n, p.counted)

      by : (o : Option Value) → held b s.cells ≡ o → OfType s (ref t) (cell b)
      by none e = of_freed (born_first n) most e
      by (some w) e = of_live (born_first n) most e (deeper w (held_fits Σ b t w s.cells n p.holds e))

  of_type : (t : Ty) (v : Value) → Fits InRange Σ v t → OfType s t v
  of_type int v f = an_int f
  of_type float v f = a_float f
  of_type bool v f = a_bool f
  of_type unit v f = a_unit f
  of_type (ref t) v f = a_cell f λ w g. of_type t w g

good_type : {Σ : List Ty} {t : Ty} {v : Value} {s : State} → Good InRange Σ t (value v s) → OfType s t v
good_type {t = t} {v = v} (good_value g p q) = of_type p t v q

in_wide : Wide InRange
in_wide = record { ints = λ z k. k; floats = λ x k. k }

-- no number that is written is out of the range, and every float number is of 64 bits
written : (ts : List Token) (p : Program) → Reading ts p → ((i : ℕ) → value_at ts i ≤ LARGEST) → Fair InRange (program_owns p)
unfolding in_range
written ts p r h = all_same (λ o k. (le-leb o.worth _ (omega (arith, k.1.0, h o.at)), k.1.1)) (own_inside ts p r)

-- A program that was read from tokens whose numbers can be written, as those of every split are, ends with a value of its type.
pub value_of_type : {σ : Sizes} (ts : List Token) (p : Program) (t : Ty) (allowance room : ℕ) (v : Value) (s : State)
    → Reading ts p → ((i : ℕ) → value_at ts i ≤ LARGEST) → HasTypeUnder σ p t → run p allowance room ≡ value v s → OfType s t v
value_of_type ts p t a r v s reading small h e =
    good_type (subst (Good InRange [] t) e (run_good in_wide p t a r h (written ts p reading small)))

-- The number that is reported of a float is its 64 bits, and what they say is the float (R08.7).
pub record Bits (v : Value) : Type 0 where
  pub carries : Float
  pub bits : ℕ
  pub is : v ≡ Value.float carries
  pub reported : value_number v ≡ pos bits
  pub few : bits < 2 ^ 64
  pub back : of_bits binary64 bits ≡ carries

pub float_bits : {s : State} {v : Value} → OfType s float v → Bits v
unfolding value_number
float_bits (of_float {x} h) = record {
  carries = x;
  bits = to_bits binary64 x;
  is = refl;
  reported = refl;
  few = to_bits-lt binary64 x h;
  back = of_bits-to_bits binary64 x h;
}
