-- `count_of` takes a count, or one too large.
use mathlib.Core.Path.{◌∙◌}
use Rattle.records.proofs.Taken.{a_count}
use Rattle.records.proofs.readings.count_of.Goals as goal

pub returns : goal.returns
returns c = c.unwrap_or.ensures ∙ a_count c.args.name.now c.args.text.now c.count.ensures
