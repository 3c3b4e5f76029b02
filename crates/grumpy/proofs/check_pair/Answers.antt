-- `check_pair` tells what is answered for the joined text of the two sheets.
use Rattle.grumpy.proofs.TwoSheets.{check_paired}
use Rattle.grumpy.proofs.check_pair.Goals as goal

pub returns : goal.returns
returns c =
    check_paired _ _ _ _ _ c.check_source-answer.result c.checked.result c.check_source-answer.ensures c.checked.ensures
