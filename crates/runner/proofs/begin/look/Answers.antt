use lib.Dec.{lit≤}
use native.Mathlib.Omega.{arith}
use Rattle.runner.proofs.Promises.{starts_row}
use Rattle.runner.proofs.Starting.{looks_token, looks_slot, looks}
use Rattle.runner.proofs.begin.look.Goals as goal

pub note-slot-requires : goal.note-slot-requires
note-slot-requires c =
    ((starts_row c.requires.0).0, omega (arith, c.link-own.ensures, looks_token c.requires.1 c.requires.0))

pub overflow_add-spot : goal.overflow_add-spot
overflow_add-spot c =
    omega (arith, looks_slot c.requires.1 c.link-own.ensures c.note-slot.ensures c.requires.0)

pub value-v-requires : goal.value-v-requires
value-v-requires c =
    let l = looks_slot c.requires.1 c.link-own.ensures c.note-slot.ensures c.requires.0 in
    (lit≤ tt, omega (arith, l), omega (arith, l, c.requires.0.holds.fair.room.long))

pub returns : goal.returns
returns c =
    looks c.requires.1 c.link-own.ensures c.note-slot.ensures c.value-v.ensures c.gives.ensures
