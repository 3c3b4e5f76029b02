use Rattle.shift.proofs.Going.{goes_line}
use Rattle.shift.proofs.feeding.line.Goals as goal

pub add-requires : goal.add-requires
add-requires c =
    let x = c.requires.0 in
    (c.come-outcome.ensures x.edition x.book x.ready).small

pub returns : goal.returns
returns c =
    let a = c.args in
    goes_line a.program a.table.now a.work.now a.out.now a.state c.come-outcome.result _ _ _ _ _ c.requires.1
    c.come-outcome.ensures c.none.ensures c.add.ensures
