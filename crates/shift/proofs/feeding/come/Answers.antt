use Rattle.shift.proofs.Running.{good_small, came_good, came_bad}
use Rattle.shift.proofs.feeding.come.Goals as goal

pub run-requires : goal.run-requires
run-requires c =
    let s = good_small _ c.ended.result _ c.ended.ensures c.in-Some.is in (c.requires, s.0, s.1)

pub returns-in-Some : goal.returns-in-Some
returns-in-Some c =
    let a = c.args in
    came_good a.program a.table.now a.work.now a.out.now a.allowance a.part c.ended.result
    c.ended.ensures _ c.run.result _ _ _ c.in-Some.is c.run.ensures

pub returns-in-None : goal.returns-in-None
returns-in-None c =
    let a = c.args in
    came_bad a.program a.table.now a.work.now a.out.now a.allowance a.part c.ended.result
    c.ended.ensures c.in-None.is
