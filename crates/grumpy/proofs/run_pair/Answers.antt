-- `run_pair` tells what is answered for the joined text of the two sheets.
use Rattle.grumpy.proofs.TwoSheets.{run_paired}
use Rattle.grumpy.proofs.run_pair.Goals as goal

pub returns : goal.returns
returns c =
    run_paired _ _ _ _ _ _ _ _ _ _ c.run_source-answer.result c.ran.result c.run_source-answer.ensures c.ran.ensures
