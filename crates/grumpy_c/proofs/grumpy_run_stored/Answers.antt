use Rattle.grumpy_c.proofs.Told.{ran_c}
use Rattle.grumpy_c.proofs.grumpy_run_stored.Goals as goal

pub returns : goal.returns
returns c =
    ran_c c.run_stored-answer.result c.if-report-lt6.false c.run_stored-answer.ensures c.report_ran.ensures
