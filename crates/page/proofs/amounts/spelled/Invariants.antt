-- `spelled` reads digit by digit, from the number so far.
use Rattle.page.proofs.Spelling.{Counted}
use Rattle.page.proofs.amounts.spelled.Given as goal

abbrev pub invariant-loop-digit : goal.invariant-loop-digit
invariant-loop-digit l = Counted l.most l.digits l.digit-index l.value
