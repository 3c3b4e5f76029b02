-- `measure` adds up the tokens: so far the first ones.
use Rattle.writer.proofs.Steps.{measured_more, measured_all}
use Rattle.writer.proofs.measure.Goals as goal

pub loop-i-preserved : goal.loop-i-preserved
loop-i-preserved c =
    let given = c.requires in
    measured_more c.loop-i.invariant given c.loop-i-test.true c.place-begin.ensures c.end-end.ensures

pub returns : goal.returns
returns c =
    measured_all c.loop-i.invariant c.loop-i-test.false
