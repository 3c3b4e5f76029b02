use Rattle.shift.proofs.Going.{goes_past, goes_full, goes_byte}
use Rattle.shift.proofs.feeding.byte.Goals as goal

pub returns-then-state : goal.returns-then-state
returns-then-state c =
    let a = c.args in
    goes_past a.program a.table.now a.work.now a.out.now a.state a.b c.if-state.true

pub returns-then-state-ge-LINES : goal.returns-then-state-ge-LINES
returns-then-state-ge-LINES c =
    let a = c.args in
    goes_full a.program a.table.now a.work.now a.out.now a.state a.b c.filled.result
    c.if-state.false c.if-state-ge-LINES.true c.filled.ensures

pub returns : goal.returns
returns c =
    let a = c.args in
    goes_byte a.program a.table.now a.work.now a.out.now a.state a.b c.within.result c.if-state.false
    c.if-state-ge-LINES.false c.if-b-eq10.false c.within.ensures
