use mathlib.Core.Path.{refl}
use Rattle.grumpy_c.specs.Shifts.{as_before, held}
use Rattle.grumpy_c.proofs.shifts.leave.Goals as goal

pub returns-then-kept : goal.returns-then-kept
returns-then-kept c =
    rw c.if-kept.true (as_before refl)

pub returns : goal.returns
returns c =
    rw c.if-kept.false (held c.write_state.ensures)
