-- `count_of` reads the first line as a count.
use mathlib.Core.Path.{◌∙◌}
use Rattle.stored.proofs.LineLaws.{no_count, other_count, count_is}
use Rattle.stored.proofs.lines.count_of.Goals as goal

pub returns-in_err-line_at : goal.returns-in_err-line_at
returns-in_err-line_at c =
    rw c.from_residual.ensures (no_count c.in_err-line_at.ensures)

pub returns-then-branch-ne4 : goal.returns-then-branch-ne4
returns-then-branch-ne4 c =
    other_count c.in_ok-line_at.ensures c.if-branch-ne4.true

pub returns : goal.returns
returns c =
    count_is c.in_ok-line_at.ensures c.if-branch-ne4.false (c.from.ensures ∙ c.byte.ensures) (c.from-2.ensures ∙ c.byte-2.ensures)
