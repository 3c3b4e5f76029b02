-- `fork` writes the words of a fork, and the link to it.
use mathlib.Core.Path.{refl}
use Rattle.tokens.specs.Forks.{put_fork}
use Rattle.tokens.proofs.forks.fork.Goals as goal

pub returns : goal.returns
unfolding put_fork
returns c =
    record { bit = c.bit_between-bit.result; apart = c.bit_between-bit.ensures; table = refl }
