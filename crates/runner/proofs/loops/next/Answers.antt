use mathlib.Core.Path.{refl}
use lib.Dec.{lit≤}
use native.Mathlib.Omega.{arith}
use native.Mathlib.Nat.{le_refl}
use Rattle.runner.proofs.Promises.{some_from, goes_from}
use Rattle.runner.proofs.Looping.{nexts_slots, nexts_turn, nexts_over}
use Rattle.runner.proofs.loops.next.Goals as goal

pub value-z-requires : goal.value-z-requires
value-z-requires c =
    (lit≤ tt, omega (arith, (nexts_slots c.requires).1), omega (arith, (nexts_slots c.requires).0, (nexts_slots c.requires).1))

pub value-to-requires : goal.value-to-requires
value-to-requires c =
    (lit≤ tt, omega (arith, (nexts_slots c.requires).1), omega (arith, (nexts_slots c.requires).0, (nexts_slots c.requires).1))

pub value-by-requires : goal.value-by-requires
value-by-requires c =
    (lit≤ tt, omega (arith, (nexts_slots c.requires).1), omega (arith, (nexts_slots c.requires).0, (nexts_slots c.requires).1))

pub turn-requires : goal.turn-requires
turn-requires c =
    some_from
    (nexts_turn c.value-z.result c.value-to.result c.value-by.result refl c.value-z.ensures
    c.value-to.ensures c.value-by.ensures c.next-n.result c.next-n.ensures c.in-Some.is) c.requires

pub returns-in-Some : goal.returns-in-Some
returns-in-Some c =
    goes_from
    (nexts_turn c.value-z.result c.value-to.result c.value-by.result refl c.value-z.ensures
    c.value-to.ensures c.value-by.ensures c.next-n.result c.next-n.ensures c.in-Some.is) (le_refl _)
    c.turn.ensures

pub returns-in-None : goal.returns-in-None
returns-in-None c =
    nexts_over c.value-z.result c.value-to.result c.value-by.result refl c.value-z.ensures
    c.value-to.ensures c.value-by.ensures c.next-n.result c.next-n.ensures
    c.in-None.is c.gives.ensures
