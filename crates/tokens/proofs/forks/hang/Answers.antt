-- `hang` makes a fork where the spellings differ.
use Rattle.tokens.proofs.Seeking.{hung_fork}
use Rattle.tokens.proofs.forks.hang.Goals as goal

pub returns-in-Some : goal.returns-in-Some
returns-in-Some c =
    hung_fork c.in-Some.ensures c.letter.ensures.0 c.letter-in-Some.ensures.0 c.fork.ensures
