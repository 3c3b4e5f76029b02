-- `feeds_before` counts: what it has counted are the line feeds so far.
use mathlib.Core.Path.{◌≡◌}
use lib.ListN.{take}
use Prim.Native.Nat.{◌≤◌}
use Rattle.page.specs.Lines.{feeds}
use Rattle.page.proofs.lines.feeds_before.Given as goal

abbrev pub invariant-loop-i : goal.invariant-loop-i
invariant-loop-i l = (l.count ≤ l.i) × (l.count ≡ feeds (take l.i l.source))
