use mathlib.Core.Path.{◌≡◌}
use Rattle.profiles.specs.Shares.{find_share}
use Rattle.profiles.proofs.passes.find.Given as goal

abbrev pub invariant-loop-k : goal.invariant-loop-k
invariant-loop-k l = find_share l.table l.name l.seen ≡ find_share l.table l.name l.k
