use Rattle.grumpy.proofs.Services.{answered_sheet, answered_refused}
use Rattle.grumpy.proofs.outcomes.run_or_refuse.Goals as goal

pub returns-in-Ok : goal.returns-in-Ok
returns-in-Ok c =
    answered_sheet _ _ _ _ _ _ _ _ _ _ _ _ c.resolve.ensures c.execute-ending.ensures c.in-Ok.is
    c.answer.ensures

pub returns-in-Err : goal.returns-in-Err
returns-in-Err c =
    let x = c.refuse.ensures in answered_refused _ _ _ _ _ _ _ _ _ _ x.value x.work_after x.out_unchanged c.in-Err.is
