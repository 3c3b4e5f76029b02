use mathlib.Core.Path.{◌≡◌}
use lib.ListN.{length}
use Rattle.runner.specs.Waiting.{Run}
use Rattle.runner.specs.Standing.{Good, weight}
use Rattle.runner.proofs.go.Given as goal

abbrev pub invariant-loop-work : goal.invariant-loop-work
invariant-loop-work l = (length l.work ≡ length l.initial.work) × (length l.out ≡ length l.initial.out)
    × ((q : Run) → Good q l.table l.initial.work l.initial.out l.initial.next → Good q l.table l.work l.out l.next)

abbrev pub decreases-loop-work : goal.decreases-loop-work
decreases-loop-work l = weight l.next
