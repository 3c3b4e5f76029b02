-- The functions from `k` on do not have the name.
use mathlib.Core.Path.{◌≡◌}
use Rattle.layout.specs.Functions.{find_function}
use Rattle.layout.proofs.functions.find.Given as goal

abbrev pub invariant-loop-k : goal.invariant-loop-k
invariant-loop-k l = find_function l.table l.number l.seen ≡ find_function l.table l.number l.k
