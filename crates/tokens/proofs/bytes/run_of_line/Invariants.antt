-- `run_of_line` goes over the bytes of a class: what it has passed is scanned.
use Rattle.language.proofs.Text.Runs.{Scanned}
use Rattle.std.proofs.Math.Seq.{slice}
use Rattle.tokens.specs.Shown.{told}
use Rattle.tokens.proofs.bytes.run_of_line.Given as goal

abbrev pub invariant-loop-n : goal.invariant-loop-n
invariant-loop-n g l = Scanned (g.C.Class.has l.class) (told (slice l.from l.to l.sheet)) l.at l.n
