-- `entry_at` looks at the line, and then at what is on it.
use Rattle.stored.specs.Entries.{no_digits}
use Rattle.stored.proofs.entries.entry_at.Goals as goal

pub returns-in_default : goal.returns-in_default
returns-in_default c =
    no_digits c.in_default.ensures
