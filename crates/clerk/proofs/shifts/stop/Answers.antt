-- `stop` goes by whether the stop came.
use Rattle.clerk.proofs.Saying.{no_stop, some_stop}
use Rattle.page.proofs.Adding.{being, nothing, ◌▸◌}
use Rattle.clerk.proofs.shifts.stop.Goals as goal

pub returns-then-lines-ne0 : goal.returns-then-lines-ne0
returns-then-lines-ne0 c =
    being (some_stop _ c.of_stop.ensures c.stopped-lines.ensures c.if-lines-ne0.true)
    (c.put.ensures ▸ c.decimal.ensures ▸ c.put-then-lines-ne0.ensures ▸ c.decimal-then-lines-ne0.ensures
    ▸ c.put-then-lines-ne0-2.ensures ▸ c.words.ensures ▸ c.put-then-lines-ne0-3.ensures)

pub returns-else-lines-ne0 : goal.returns-else-lines-ne0
returns-else-lines-ne0 c = being (no_stop _ c.stopped-lines.ensures c.if-lines-ne0.false) nothing
