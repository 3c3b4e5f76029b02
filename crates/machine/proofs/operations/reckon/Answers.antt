use mathlib.Core.Path.{refl, ap}
use mathlib.Core.Bool.{Bool}
use native.Mathlib.Omega.{arith}
use lib.Dec.{eqb}
use lib.Signed.{lt_z}
use mir.Syntax.{w32}
use mir.Val.{to_z, of_z}
use mir.Facts.{to_z-of_z}
use Rattle.layout.specs.declared.values.Value.TheVariants.{Flag}
use Rattle.std.specs.Prelude.{Ok}
use Rattle.machine.proofs.Reckoning.{reckons_add, reckons_sub, reckons_mul, reckons_zero}
use Rattle.machine.proofs.Reckoning.{reckons_div, reckons_less, reckons_equal, bits_equal, bits_zero}
use Rattle.machine.proofs.operations.reckon.Goals as goal

pub returns-in-21 : goal.returns-in-21
returns-in-21 c =
    reckons_add _ _ _ c.add.result c.in-21.is
    (rw (to_z-of_z {w = w32} c.ranges.a, to_z-of_z {w = w32} c.ranges.b) at c.add.ensures)

pub returns-in-22 : goal.returns-in-22
returns-in-22 c =
    reckons_sub _ _ _ c.subtract.result c.in-22.is
    (rw (to_z-of_z {w = w32} c.ranges.a, to_z-of_z {w = w32} c.ranges.b) at c.subtract.ensures)

pub returns-in-23 : goal.returns-in-23
returns-in-23 c =
    reckons_mul _ _ _ c.multiply.result c.in-23.is
    (rw (to_z-of_z {w = w32} c.ranges.a, to_z-of_z {w = w32} c.ranges.b) at c.multiply.ensures)

pub returns-in-24 : goal.returns-in-24
returns-in-24 c = reckons_zero _ _ _ _ c.in-24.is (bits_zero _ c.ranges.b c.if-b-eq0.true) refl

pub returns-in-24-2 : goal.returns-in-24-2
returns-in-24-2 c =
    reckons_div _ _ _ c.divide.result c.in-24.is (λ q. c.if-b-eq0.false (ap (of_z w32) q))
    (rw (to_z-of_z {w = w32} c.ranges.a, to_z-of_z {w = w32} c.ranges.b) at c.divide.ensures)

pub returns-in-27 : goal.returns-in-27
returns-in-27 c =
    reckons_less _ _ _ (Ok (Flag (lt_z (to_z w32 (of_z w32 c.args.a)) (to_z w32 (of_z w32 c.args.b))))) c.in-27.is
    (rw (to_z-of_z {w = w32} c.ranges.a, to_z-of_z {w = w32} c.ranges.b) refl)

pub returns-in_default : goal.returns-in_default
returns-in_default c =
    reckons_equal c.args.op _ _ (Ok (Flag (eqb (of_z w32 c.args.a) (of_z w32 c.args.b)))) c.requires (λ e. omega arith)
    (λ e. omega arith) (λ e. omega arith) (λ e. omega arith) (λ e. omega arith)
    (ap (λ (b : Bool). Ok (Flag b)) (bits_equal c.args.a c.args.b c.ranges.a c.ranges.b))
