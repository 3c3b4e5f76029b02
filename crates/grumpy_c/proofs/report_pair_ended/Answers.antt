use Rattle.grumpy_c.proofs.ToldPairs.{told_stopped}
use Rattle.grumpy_c.proofs.report_pair_ended.Goals as goal

pub returns-in-Err : goal.returns-in-Err
returns-in-Err c =
    told_stopped _ _ _ _ _ c.in-Err.is c.of_stop-number.ensures c.write_pair_run_report-in-Err.ensures
