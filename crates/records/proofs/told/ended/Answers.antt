-- `ended` goes by the end.
use Rattle.page.proofs.Adding.{◌▸◌}
use Rattle.records.specs.Told.{end_lines}
use Rattle.records.proofs.told.ended.Goals as goal

pub returns-in-Passed : goal.returns-in-Passed
unfolding end_lines
returns-in-Passed c = rw c.in-Passed.is (c.well.ensures ▸ c.type_line.ensures)

pub returns-in-Counted : goal.returns-in-Counted
unfolding end_lines
returns-in-Counted c = rw c.in-Counted.is (c.well-in-Counted.ensures ▸ c.type_line-in-Counted.ensures ▸ c.field.ensures)

pub returns-in-Value : goal.returns-in-Value
unfolding end_lines
returns-in-Value c =
    rw c.in-Value.is
    (c.well-in-Value.ensures ▸ c.type_line-in-Value.ensures ▸ c.value_lines.ensures ▸ c.ran.ensures)

pub returns-in-Refused : goal.returns-in-Refused
unfolding end_lines
returns-in-Refused c = rw c.in-Refused.is c.cause.ensures

pub returns-in-Stopped : goal.returns-in-Stopped
unfolding end_lines
returns-in-Stopped c =
    rw c.in-Stopped.is (c.cause-in-Stopped.ensures ▸ c.type_line-in-Stopped.ensures ▸ c.ran-in-Stopped.ensures)
