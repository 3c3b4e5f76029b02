use Rattle.shift.proofs.Running.{ran_so}
use Rattle.shift.proofs.feeding.run.Goals as goal

pub returns : goal.returns
returns c =
    let a = c.args in
    λ ed book x.
    ran_so ed book a.program a.table.now a.work.now a.out.now a.allowance x record { picks = a.job.picks; rate = a.job.rate }
    c.requires.1 c.requires.2 _ _ _ c.call.result c.ended.result c.call.ensures c.ended.ensures
