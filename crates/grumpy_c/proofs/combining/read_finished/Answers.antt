use Rattle.grumpy_c.proofs.ToldCombined.{finished_read}
use Rattle.grumpy_c.proofs.combining.read_finished.Goals as goal

pub returns : goal.returns
returns c =
    finished_read c.args.words.now c.read_ending-told.ensures c.read_counts-sums.ensures
