-- `way_end` goes from fork to fork, each behind the one before it.
use mathlib.Core.Path.{refl}
use native.Mathlib.Omega.{arith}
use Rattle.tokens.proofs.Planting.{way_first, link_inside, first_inside, next_link, way_on}
use Rattle.tokens.proofs.forks.way_end.Goals as goal

pub offset_bounds-table-at : goal.offset_bounds-table-at
offset_bounds-table-at c =
    omega (arith, first_inside c.requires _ c.start-at.ensures)

pub bounds-table-at : goal.bounds-table-at
bounds-table-at c =
    omega (arith, first_inside c.requires _ c.start-at.ensures, c.requires.room)

pub loop-to-init : goal.loop-to-init
loop-to-init c =
    way_first c.requires c.len.ensures c.start-at.ensures refl

pub offset_bounds-table-at-in-loop-to : goal.offset_bounds-table-at-in-loop-to
offset_bounds-table-at-in-loop-to c =
    let l = c.loop-to in
    omega (arith, link_inside c.requires (next_link c.requires l.invariant c.loop-to-test.true c.link-at.ensures))

pub bounds-table-at-in-loop-to : goal.bounds-table-at-in-loop-to
bounds-table-at-in-loop-to c =
    let l = c.loop-to in
    omega (arith, link_inside c.requires (next_link c.requires l.invariant c.loop-to-test.true c.link-at.ensures), c.requires.room)

pub loop-to-preserved : goal.loop-to-preserved
loop-to-preserved c =
    let l = c.loop-to in way_on c.requires l.invariant c.loop-to-test.true c.link-at.ensures refl
