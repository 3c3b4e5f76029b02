use Rattle.machine.proofs.CellLaws.{assigned_at, missed_at}
use Rattle.machine.proofs.cells.assign.Goals as goal

pub returns-in_default : goal.returns-in_default
returns-in_default c = missed_at _ c.args.v c.requires.0 c.in_default.ensures

pub returns : goal.returns
returns c = assigned_at _ c.args.v c.requires.0 c.in-Some.ensures c.put.ensures.1 _ c.put.ensures.0
