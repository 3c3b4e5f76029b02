-- The whole list: what is read of it, and what is cleared where that is not all of it.
use Rattle.reader.proofs.ProgramLaws.{known_program, found_none, found_short, found_program}
use Rattle.reader.proofs.read.Goals.{in-Ok-2, in-Err}
use Rattle.reader.proofs.read.Goals as goal

pub returns-in-Ok : goal.returns-in-Ok
returns-in-Ok c =
    found_program c.in-Ok.ensures c.if-whole-count.true

pub returns : goal.returns
returns c =
    elim c.match-program.branch [
      | in-Ok-2 w ↦ rw w.failed-is (found_short (known_program c.program.ensures w.in-Ok.is) w.if-whole-count.false c.clear.ensures)
      | in-Err w ↦ rw w.failed-is (found_none (known_program c.program.ensures w.in-Err.is) c.clear.ensures)
    ]
