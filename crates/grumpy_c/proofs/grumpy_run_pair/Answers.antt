use Rattle.grumpy_c.proofs.ToldPairs.{pair_ran_c}
use Rattle.grumpy_c.proofs.grumpy_run_pair.Goals as goal

pub returns : goal.returns
returns c =
    pair_ran_c _ _ _ _ _ _ _ _ _ _ _ _ c.run_pair-answer.result _ c.if-report-lt9.false c.run_pair-answer.ensures
    c.report_pair_ran.ensures
