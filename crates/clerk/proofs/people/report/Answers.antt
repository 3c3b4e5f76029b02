-- `report` goes by the end.
use Rattle.clerk.specs.Reports.{report_text}
use Rattle.page.proofs.Adding.{◌▸◌}
use Rattle.clerk.proofs.people.report.Goals as goal

pub returns-in-Passed : goal.returns-in-Passed
unfolding report_text
returns-in-Passed c = rw c.in-Passed.is (c.well.ensures ▸ c.type_line.ensures)

pub returns-in-Counted : goal.returns-in-Counted
unfolding report_text
returns-in-Counted c = rw c.in-Counted.is (c.well-in-Counted.ensures ▸ c.type_line-in-Counted.ensures ▸ c.counted.ensures)

pub returns-in-Value : goal.returns-in-Value
unfolding report_text
returns-in-Value c =
    rw c.in-Value.is
    (c.well-in-Value.ensures ▸ c.type_line-in-Value.ensures ▸ c.value_lines.ensures ▸ c.units.ensures)

pub returns-in-Refused : goal.returns-in-Refused
unfolding report_text
returns-in-Refused c = rw c.in-Refused.is c.cause.ensures

pub returns-in-Stopped : goal.returns-in-Stopped
unfolding report_text
returns-in-Stopped c =
    rw c.in-Stopped.is (c.cause-in-Stopped.ensures ▸ c.type_line-in-Stopped.ensures ▸ c.units-in-Stopped.ensures)
