use Rattle.grumpy_c.proofs.Told.{ran_c}
use Rattle.grumpy_c.proofs.grumpy_run.Goals as goal

pub returns : goal.returns
returns c =
    ran_c c.run-answer.result c.if-report-lt6.false c.run-answer.ensures c.report_ran.ensures
