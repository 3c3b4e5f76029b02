use Rattle.grumpy_c.proofs.Told.{told_stopped}
use Rattle.grumpy_c.proofs.report_ended.Goals as goal

pub returns-in-Err : goal.returns-in-Err
returns-in-Err c =
    told_stopped _ _ _ _ _ c.in-Err.is c.of_stop-number.ensures c.write_run_report-in-Err.ensures
