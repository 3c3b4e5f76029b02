use Rattle.grumpy_c.proofs.ToldPairs.{pair_checked_c}
use Rattle.grumpy_c.proofs.grumpy_check_pair.Goals as goal

pub returns : goal.returns
returns c =
    pair_checked_c _ _ _ _ _ _ _ c.check_pair-answer.result _ c.if-report-lt6.false c.check_pair-answer.ensures
    c.report_pair_checked.ensures
