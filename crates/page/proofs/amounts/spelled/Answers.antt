-- `spelled` reads digit by digit, from the number so far.
use native.Mathlib.Omega.{arith}
use Rattle.page.proofs.Spelling.{counted_more, counted_large, counted_all}
use Rattle.page.proofs.amounts.spelled.Goals as goal

pub returns-then-most-value : goal.returns-then-most-value
returns-then-most-value c = counted_large c.loop-digit.invariant (omega arith) c.worth.ensures.0 c.if-most-value.true

pub loop-digit-preserved : goal.loop-digit-preserved
loop-digit-preserved c = counted_more c.loop-digit.invariant (omega arith) c.worth.ensures.0 c.if-most-value.false

pub returns : goal.returns
returns c = counted_all c.loop-digit.invariant (omega arith)
