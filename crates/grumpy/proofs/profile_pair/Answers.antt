-- `profile_pair` tells what is answered for the joined text of the two sheets.
use Rattle.grumpy.proofs.TwoSheets.{profile_paired}
use Rattle.grumpy.proofs.profile_pair.Goals as goal

pub returns : goal.returns
returns c =
    profile_paired _ _ _ _ _ c.profile_source-answer.result c.profiled.result c.profile_source-answer.ensures
    c.profiled.ensures
