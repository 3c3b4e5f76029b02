use mathlib.Core.Path.{refl}
use lib.Dec.{lit≤}
use native.Mathlib.Omega.{arith}
use native.Mathlib.Nat.{le_refl}
use Rattle.runner.proofs.Promises.{some_from, goes_from}
use Rattle.runner.proofs.Looping.{bounds_slots, bounds_two, bounds_three}
use Rattle.runner.proofs.loops.bounded.Goals as goal

pub value-from-requires : goal.value-from-requires
value-from-requires c =
    (lit≤ tt, omega (arith, (bounds_slots c.requires.0).1), omega (arith, (bounds_slots c.requires.0).0, (bounds_slots c.requires.0).1))

pub first-requires : goal.first-requires
first-requires c =
    some_from (bounds_two c.requires.1 c.requires.2 refl c.value-from.ensures c.if-k-eq1.true c.step-by.ensures)
    c.requires.0

pub returns-then-k-eq1 : goal.returns-then-k-eq1
returns-then-k-eq1 c =
    goes_from (bounds_two c.requires.1 c.requires.2 refl c.value-from.ensures c.if-k-eq1.true c.step-by.ensures) (le_refl _)
    c.first.ensures

pub value-to-requires : goal.value-to-requires
value-to-requires c =
    (lit≤ tt, omega (arith, (bounds_slots c.requires.0).1), omega (arith, (bounds_slots c.requires.0).0, (bounds_slots c.requires.0).1))

pub first-requires-2 : goal.first-requires-2
first-requires-2 c =
    some_from (bounds_three c.requires.1 c.requires.2 refl c.value-from.ensures c.if-k-eq1.false c.value-to.ensures)
    c.requires.0

pub returns : goal.returns
returns c =
    goes_from (bounds_three c.requires.1 c.requires.2 refl c.value-from.ensures c.if-k-eq1.false c.value-to.ensures)
    (le_refl _) c.first-2.ensures
