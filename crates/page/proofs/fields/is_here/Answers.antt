-- `is_here` asks the library.
use mathlib.Core.Path.{◌∙◌}
use Rattle.page.proofs.Named.{begins_from}
use Rattle.page.proofs.fields.is_here.Goals as goal

pub returns-then-fresh : goal.returns-then-fresh
returns-then-fresh c = rw c.if-fresh.true (c.starts_with.ensures.value ∙ begins_from _ c.args.text.now c.args.at)
