use Rattle.grumpy_c.proofs.ToldPairs.{told_not_run}
use Rattle.grumpy_c.proofs.report_pair_ran.Goals as goal

pub returns-in-Err : goal.returns-in-Err
returns-in-Err c =
    told_not_run _ _ _ _ _ c.in-Err.is c.of_refusal-number.ensures c.write_pair_run_report.ensures
