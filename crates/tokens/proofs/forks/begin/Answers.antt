-- `begin` clears the first forks, and tells how many they are.
use mathlib.Core.Path.{refl}
use Rattle.tokens.proofs.FirstForks.{begun}
use Rattle.tokens.proofs.forks.begin.Goals as goal

pub returns : goal.returns
returns c =
    begun c.requires c.clear.ensures refl
