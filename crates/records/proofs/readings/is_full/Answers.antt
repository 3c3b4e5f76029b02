-- `is_full` looks at the end, and counts the lines.
use borrow.Author.Tests.{ne_eqb}
use Rattle.records.proofs.Taken.{is_ended, not_ended}
use Rattle.records.proofs.readings.is_full.Goals as goal

pub returns-then-line_start-n : goal.returns-then-line_start-n
returns-then-line_start-n c =
    is_ended c.args.text.now c.line_start.result c.line_start.ensures c.feeds_before.ensures c.if-line_start-n.true
    c.is_length.ensures

pub returns-else-line_start-n : goal.returns-else-line_start-n
returns-else-line_start-n c =
    rw (ne_eqb _ _ c.if-line_start-n.false)
    (not_ended c.args.text.now c.line_start.result c.line_start.ensures c.if-line_start-n.false)
