-- `stops` puts the parts one behind the other.
use Rattle.page.proofs.Adding.{◌▸◌}
use Rattle.records.specs.Machines.{first_lines, second_lines, third_lines, stop_lines}
use Rattle.records.proofs.machines.stops.Goals as goal

pub returns : goal.returns
unfolding stop_lines first_lines second_lines third_lines
returns c =
    (c.stop.ensures ▸ c.stop-2.ensures ▸ c.stop-3.ensures) ▸ (c.stop-4.ensures ▸ c.stop-5.ensures ▸ c.stop-6.ensures)
    ▸ (c.stop-7.ensures ▸ c.stop-8.ensures ▸ c.stop-9.ensures)
