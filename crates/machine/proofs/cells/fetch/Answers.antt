use Rattle.machine.proofs.Telling.{tells_same}
use Rattle.machine.proofs.CellLaws.{fetched, unfetched}
use Rattle.machine.proofs.cells.fetch.Goals as goal

pub returns-in-Some : goal.returns-in-Some
returns-in-Some c = λ i o. tells_same (fetched _ _ _ i o c.requires c.in-Some.ensures c.value.result c.value.ensures)

pub returns-in-None : goal.returns-in-None
returns-in-None c = λ i o. tells_same (unfetched _ _ _ i o c.in-None.ensures)
