-- `start` takes the fork of the length.
use Rattle.tokens.proofs.FirstForks.{start_short, start_long}
use Rattle.tokens.proofs.forks.start.Goals as goal

pub returns-then-size : goal.returns-then-size
returns-then-size c =
    start_short c.args.size c.if-size.true

pub returns : goal.returns
returns c =
    start_long c.args.size c.if-size.false
