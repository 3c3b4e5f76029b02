-- `finish` goes by whether the edition is known.
use Rattle.shift.proofs.Finishing.{finish_known, finish_unknown}
use Rattle.shift.proofs.finish.Goals as goal

pub returns-then-knows : goal.returns-then-knows
returns-then-knows c =
    finish_known _ _ c.knows.result c.knows.ensures _ c.if-knows.true c.closing-sums.ensures

pub returns : goal.returns
returns c =
    finish_unknown _ _ c.knows.result c.knows.ensures _ c.if-knows.false c.none-sums.ensures
