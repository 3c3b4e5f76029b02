-- What the borrow checker leaves of `cells::seek`.
use Prim.Native.Nat.{◌-◌, ◌≤◌}
use Rattle.machine.proofs.Seeking.{Between}
use Rattle.machine.proofs.cells.seek.Given as goal

abbrev pub invariant-loop-low : goal.invariant-loop-low
invariant-loop-low l = (l.low ≤ l.high) × Between l.work l.n l.birth l.low l.high

abbrev pub decreases-loop-low : goal.decreases-loop-low
decreases-loop-low l = l.high - l.low
