use Prim.Native.Nat.{ℕ, ◌≤◌}
use Rattle.profiles.specs.Shares.{reach}
use Rattle.profiles.specs.Passes.{Summed}
use Rattle.profiles.proofs.passes.arguments.Given as goal

abbrev pub invariant-loop-at : goal.invariant-loop-at
invariant-loop-at l = (l.at ≤ l.row) × ((t : ℕ) → Summed l.table l.at l.sum t → Summed l.table (reach l.table l.row) 1 t)

abbrev pub decreases-loop-at : goal.decreases-loop-at
decreases-loop-at l = l.at
