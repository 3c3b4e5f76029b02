use Rattle.writer.proofs.Digits.{low_capital, high_capital}
use Rattle.writer.proofs.storing.capital.Goals as goal

pub returns-then-worth-lt10 : goal.returns-then-worth-lt10
returns-then-worth-lt10 c =
    low_capital _ c.if-worth-lt10.true

pub returns-else-worth-lt10 : goal.returns-else-worth-lt10
returns-else-worth-lt10 c =
    high_capital _ c.if-worth-lt10.false
