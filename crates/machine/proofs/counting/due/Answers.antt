use mathlib.Core.Path.{◌∙◌}
use Rattle.machine.proofs.Counters.{due_before, due_end, due_past}
use Rattle.machine.proofs.Reckoning.{bits_equal}
use mir.Syntax.{w32}
use mir.Facts.{to_z-of_z}
use Rattle.machine.proofs.counting.due.Goals as goal

pub returns-then-before : goal.returns-then-before
returns-then-before c =
    c.if-before.true ∙ due_before c.args.through c.args.to c.args.by c.args.z
    (rw (to_z-of_z {w = w32} c.ranges.to, to_z-of_z {w = w32} c.ranges.by, to_z-of_z {w = w32} c.ranges.z) at c.before-2.ensures)
    c.if-before.true

pub returns-then-through : goal.returns-then-through
returns-then-through c =
    due_end c.args.through c.args.to c.args.by c.args.z
    (rw (to_z-of_z {w = w32} c.ranges.to, to_z-of_z {w = w32} c.ranges.by, to_z-of_z {w = w32} c.ranges.z) at c.before-2.ensures)
    c.if-before.false c.if-through.true (bits_equal c.args.z c.args.to c.ranges.z c.ranges.to)

pub returns-else-through : goal.returns-else-through
returns-else-through c =
    c.if-through.false ∙ due_past c.args.through c.args.to c.args.by c.args.z
    (rw (to_z-of_z {w = w32} c.ranges.to, to_z-of_z {w = w32} c.ranges.by, to_z-of_z {w = w32} c.ranges.z) at c.before-2.ensures)
    c.if-before.false c.if-through.false
