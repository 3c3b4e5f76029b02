-- `run_of_sheet` stops at the first byte that is not of the class.
use mathlib.Core.Path.{sym, ◌∙◌}
use Rattle.language.proofs.Text.Runs.{scan_stop}
use Rattle.tokens.proofs.bytes.run_of_sheet.Goals as goal

pub returns-then-not-has : goal.returns-then-not-has
returns-then-not-has g c =
    scan_stop c.loop-i.invariant (sym c.has.ensures ∙ c.if-not-has.true)
