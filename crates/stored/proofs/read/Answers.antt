-- `read` looks at the count, and then at the lines behind it.
use Rattle.stored.proofs.Reading.{uncounted, large}
use Rattle.stored.proofs.read.Goals as goal

pub returns-in-Some-2 : goal.returns-in-Some-2
returns-in-Some-2 c =
    large c.in-Some.ensures c.if-counted-le-TOKENS.false

pub returns-in-None : goal.returns-in-None
returns-in-None c =
    uncounted c.in-None.ensures
