use Rattle.grumpy_c.proofs.Told.{checked_c}
use Rattle.grumpy_c.proofs.grumpy_check_stored.Goals as goal

pub returns : goal.returns
returns c =
    checked_c c.check_stored-answer.result c.if-report-lt3.false c.check_stored-answer.ensures c.report_checked.ensures
