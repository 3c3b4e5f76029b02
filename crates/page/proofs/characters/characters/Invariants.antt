-- `characters` counts: what it has counted are the characters that begin so far.
use mathlib.Core.Path.{◌≡◌}
use lib.ListN.{take}
use Prim.Native.Nat.{◌≤◌}
use Rattle.page.specs.Characters.{heads}
use Rattle.page.proofs.characters.characters.Given as goal

abbrev pub invariant-loop-b : goal.invariant-loop-b
invariant-loop-b l = (l.count ≤ l.b-index) × (l.count ≡ heads (take l.b-index l.bytes))
