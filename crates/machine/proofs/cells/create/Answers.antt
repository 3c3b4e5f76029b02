use Rattle.machine.proofs.CellLaws.{create_full, create_made}
use Rattle.machine.proofs.cells.create.Goals as goal

pub returns-then-s-ge-CELLS : goal.returns-then-s-ge-CELLS
returns-then-s-ge-CELLS c = create_full c.args.v c.requires.0 c.if-s-ge-CELLS.true

pub returns : goal.returns
returns c = create_made c.args.v c.requires.0 c.if-s-ge-CELLS.false c.put.ensures.1 _ c.put.ensures.0
