-- `run_of_line` stops at the first byte that is not of the class.
use mathlib.Core.Path.{sym, ap, ◌∙◌}
use Rattle.language.proofs.Text.Runs.{scan_stop}
use Rattle.tokens.proofs.bytes.run_of_line.Goals as goal

pub returns-then-not-has : goal.returns-then-not-has
returns-then-not-has g c =
    scan_stop c.loop-n.invariant
    (ap (g.C.Class.has c.args.class.now) (sym c.of_line.ensures) ∙ sym c.has.ensures ∙ c.if-not-has.true)
