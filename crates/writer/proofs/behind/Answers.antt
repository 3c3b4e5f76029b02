use Rattle.writer.proofs.Words.{mark_between, mark_last}
use Rattle.writer.proofs.behind.Goals as goal

pub returns-then-i-count : goal.returns-then-i-count
returns-then-i-count c =
    mark_between _ _ c.if-i-count.true

pub returns-else-i-count : goal.returns-else-i-count
returns-else-i-count c =
    mark_last _ _ c.if-i-count.false
