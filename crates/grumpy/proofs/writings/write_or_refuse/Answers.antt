use Rattle.grumpy.proofs.Handing.{handed_on}
use Rattle.grumpy.proofs.Rewriting.{rewritten_sheet, rewritten_refused}
use Rattle.grumpy.proofs.writings.write_or_refuse.Goals as goal

pub returns : goal.returns
returns g c =
    rewritten_sheet g.W.Writes.tells _ _ _ _ _ _ _ c.rewrite.ensures c.in_ok-passed.was

pub returns-in_err-passed : goal.returns-in_err-passed
returns-in_err-passed g c =
    rw (handed_on c.from_residual.ensures.1)
    (rewritten_refused g.W.Writes.tells g.met.W.Writes.lawful _ _ _ _ _ c.in_err-passed.was)
