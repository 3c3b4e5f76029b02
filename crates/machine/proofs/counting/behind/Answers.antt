use mir.Syntax.{w32}
use mir.Val.{SFits}
use mir.Facts.{to_z-of_z}
use borrow.Author.Rules.{rules}
use Rattle.machine.proofs.Counters.{steps_to, steps_past}
use Rattle.machine.proofs.counting.behind.Goals as goal

pub returns-in_err-checked_add : goal.returns-in_err-checked_add
returns-in_err-checked_add c =
    rw c.from_residual.ensures
    (steps_past c.args.z c.args.by
    (rw (to_z-of_z {w = w32} c.ranges.z, to_z-of_z {w = w32} c.ranges.by) at c.in_err-checked_add.ensures))

pub returns : goal.returns
returns c =
    let f : SFits w32 c.in_ok-checked_add.field-0 = search rules in
    rw (to_z-of_z {w = w32} f)
    (steps_to c.args.z c.args.by
    (rw (to_z-of_z {w = w32} c.ranges.z, to_z-of_z {w = w32} c.ranges.by) at c.in_ok-checked_add.ensures))
