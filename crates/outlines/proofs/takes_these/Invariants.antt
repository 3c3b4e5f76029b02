-- The loop's invariant: the types of the parameters that are left match what is left of those wanted exactly where all do.
use mathlib.Core.Path.{◌≡◌}
use Prim.Native.Nat.{◌+◌, ◌-◌, ◌≤◌}
use lib.ListN.{length, drop}
use Rattle.layout.specs.Table.{ARITY, row_word}
use Rattle.outlines.specs.Words.{type_of, matches, takes_in}
use Rattle.outlines.proofs.takes_these.Given as goal

abbrev pub invariant-loop-i : goal.invariant-loop-i
invariant-loop-i l = (l.i ≤ length l.takes) × (row_word l.table l.row ARITY ≡ length l.takes)
    × (takes_in l.table l.row l.takes ≡ matches (type_of l.table) (l.row + 1 + l.i) (drop l.i l.takes))
