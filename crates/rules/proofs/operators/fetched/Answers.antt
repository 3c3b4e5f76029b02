use Rattle.language.specs.Faults.{unsuited}
use borrow.Author.Tests.{ltb-true, ltb-false}
use Rattle.rules.proofs.TellLaws.{fault_told_as}
use Rattle.rules.proofs.OperatorLaws.{fetch_some, fetch_none}
use Rattle.rules.proofs.operators.fetched.Goals as goal

pub returns-in_err-need : goal.returns-in_err-need
unfolding unsuited
returns-in_err-need c =
    λ t p. fault_told_as c.from_residual.ensures.1 c.in_err-need.ensures.1 (fetch_none _ t p (ltb-false _ _ c.in_err-need.ensures.0))

pub returns : goal.returns
returns c = λ t p. fetch_some _ t p (ltb-true _ _ c.in_ok-need.ensures)
