use Rattle.grumpy.proofs.Rewriting.{rewrote_text}
use Rattle.grumpy.proofs.writings.WrittenOutWrites.put.Goals as goal

pub returns : goal.returns
returns c = rewrote_text _ _ _ _ _ _ c.write.ensures
