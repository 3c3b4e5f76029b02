-- `marked` puts the parts one behind the other.
use Rattle.clerk.specs.Told.{marked_lines}
use Rattle.page.proofs.Adding.{being, ◌▸◌}
use Rattle.page.specs.Text.{all_shown}
use mathlib.Core.Path.{ap}
use Rattle.clerk.proofs.people.marked.Goals as goal

pub returns : goal.returns
unfolding marked_lines
returns c =
    being (ap (all_shown _) c.trimmed.ensures) c.shown.ensures ▸ c.put.ensures ▸ c.blanks.ensures ▸ c.put-2.ensures
