use Rattle.grumpy_c.proofs.ToldProfile.{profiled_c}
use Rattle.grumpy_c.proofs.profilings.grumpy_profile.Goals as goal

pub returns : goal.returns
returns c =
    profiled_c _ _ _ _ _ _ c.profile-answer.result _ c.if-report-lt-PROFILE.false c.profile-answer.ensures c.report_profiled.ensures
