use Rattle.runner.proofs.Promises.{some_from, goes_from, units_none, units_some, charged_less}
use Rattle.runner.proofs.Starting.{begins_none, begins_deep, begins_starts}
use Rattle.runner.proofs.begin.begin.Goals as goal

pub returns-then-exhausted : goal.returns-then-exhausted
returns-then-exhausted c =
    begins_none (units_none c.exhausted.ensures c.if-exhausted.true) c.word-place.ensures c.args.v
    c.halts.ensures

pub returns-then-height : goal.returns-then-height
returns-then-height c =
    begins_deep (units_some c.exhausted.ensures c.if-exhausted.false) c.if-height.true c.word-place-then-height.ensures
    c.args.v c.charge-t.ensures c.halts-then-height.ensures

pub start-requires : goal.start-requires
start-requires c =
    some_from
    (begins_starts (units_some c.exhausted.ensures c.if-exhausted.false) c.if-height.false
    c.charge-t.ensures) c.requires

pub returns : goal.returns
returns c =
    goes_from (begins_starts (units_some c.exhausted.ensures c.if-exhausted.false) c.if-height.false c.charge-t.ensures)
    (charged_less c.args.spot.height c.args.s c.charge-t.result
    (units_some c.exhausted.ensures c.if-exhausted.false) c.charge-t.ensures) c.start.ensures
