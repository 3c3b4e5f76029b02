use Rattle.grumpy_c.proofs.Told.{wrote_c}
use Rattle.grumpy_c.proofs.grumpy_store.Goals as goal

pub returns : goal.returns
returns c =
    wrote_c _ c.store-answer.result c.if-report-lt3.false c.store-answer.ensures c.report_wrote.ensures
