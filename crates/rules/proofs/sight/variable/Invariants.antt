use mathlib.Core.Path.{◌≡◌}
use Rattle.rules.specs.Sight.{find_variable}
use Rattle.rules.proofs.sight.variable.Given as goal

abbrev pub invariant-loop-k : goal.invariant-loop-k
invariant-loop-k l = find_variable l.table l.name l.binds ≡ find_variable l.table l.name l.k
