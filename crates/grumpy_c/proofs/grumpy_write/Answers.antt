use Rattle.grumpy_c.proofs.Told.{wrote_c}
use Rattle.grumpy_c.proofs.grumpy_write.Goals as goal

pub returns : goal.returns
returns c =
    wrote_c _ c.write-answer.result c.if-report-lt3.false c.write-answer.ensures c.report_wrote.ensures
