use Rattle.grumpy.proofs.Rewriting.{rewrote_stored}
use Rattle.grumpy.proofs.writings.StoredWrites.put.Goals as goal

pub returns : goal.returns
returns c = rewrote_stored _ _ _ _ _ _ c.store.ensures
