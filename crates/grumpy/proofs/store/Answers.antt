use Rattle.grumpy.proofs.Rewriting.{served_store}
use Rattle.grumpy.proofs.store.Goals as goal

pub returns : goal.returns
returns c = served_store _ _ _ _ _ _ _ c.written.ensures
