-- `run_of_sheet` goes over the bytes of a class: what it has passed is scanned.
use Rattle.language.proofs.Text.Runs.{Scanned}
use Rattle.tokens.proofs.bytes.run_of_sheet.Given as goal

abbrev pub invariant-loop-i : goal.invariant-loop-i
invariant-loop-i g l = Scanned (g.C.Class.has l.class) l.sheet l.at l.i
