use Rattle.grumpy.proofs.Rewriting.{served_write}
use Rattle.grumpy.proofs.write.Goals as goal

pub returns : goal.returns
returns c = served_write _ _ _ _ _ _ _ c.written.ensures
