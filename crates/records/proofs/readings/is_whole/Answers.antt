-- `is_whole` looks whether they are possible, and then at what was paid.
use Rattle.records.proofs.Taken.{is_whole, not_whole}
use Rattle.records.proofs.readings.is_whole.Goals as goal

pub returns-then-possible : goal.returns-then-possible
returns-then-possible c = is_whole c.args.sums c.possible.ensures c.if-possible.true c.paid.ensures

pub returns-else-possible : goal.returns-else-possible
returns-else-possible c = rw c.if-possible.false (not_whole c.args.sums c.possible.ensures c.if-possible.false)
