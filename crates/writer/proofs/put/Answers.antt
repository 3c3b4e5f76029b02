use mathlib.Core.Path.{refl}
use Rattle.writer.proofs.Steps.{span_put}
use Rattle.writer.proofs.put.Goals as goal

pub returns : goal.returns
returns c =
    span_put _ _ _ _ _ _ _ _ c.requires c.place-from.ensures c.end-to.ensures _ _ _ _ refl c.copy-end.ensures c.behind.ensures
