-- `link` asks for the letter of a fork.
use mathlib.Core.Path.{ap}
use Prim.Native.Nat.{ℕ, ◌+◌, ◌*◌, ◌/◌, ◌%◌}
use lib.ListN.{get_or}
use Rattle.tokens.specs.Forks.{turn}
use Rattle.tokens.proofs.forks.link.Goals as goal

pub returns : goal.returns
unfolding turn
returns c =
    let a = c.args in ap (λ (x : ℕ). 4 * a.fork + 2 + (x / get_or a.table.now (4 * a.fork + 1) 0) % 2) c.letter-asked.ensures.0
