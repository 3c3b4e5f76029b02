-- The slots from `k` on do not have the name.
use mathlib.Core.Path.{◌≡◌}
use Rattle.layout.specs.Notes.{names_in}
use Rattle.layout.specs.Resolved.{slot_of}
use Rattle.resolver.proofs.trees.slot.Given as goal

abbrev pub invariant-loop-k : goal.invariant-loop-k
invariant-loop-k l = slot_of l.number (names_in l.table l.size) ≡ slot_of l.number (names_in l.table l.k)
