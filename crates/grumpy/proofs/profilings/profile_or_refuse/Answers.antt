use Rattle.grumpy.proofs.Handing.{handed_on}
use Rattle.grumpy.proofs.Profiling.{profiling_sheet, profiling_refused}
use Rattle.grumpy.proofs.profilings.profile_or_refuse.Goals as goal

pub returns : goal.returns
returns c =
    profiling_sheet _ _ _ _ _ _ _ c.profile-counted.ensures c.in_ok-passed.was c.answer.ensures

pub returns-in_err-passed : goal.returns-in_err-passed
returns-in_err-passed c =
    rw (handed_on c.from_residual.ensures.1) (profiling_refused _ _ _ _ c.in_err-passed.was)
