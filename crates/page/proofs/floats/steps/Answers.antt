-- `steps` takes one from the field, if it has one.
use native.Mathlib.Omega.{arith}
use Rattle.page.specs.Floats.{steps}
use borrow.Author.Rules.{rules}
use Rattle.page.proofs.floats.steps.Goals as goal

pub returns-then-field-eq0 : goal.returns-then-field-eq0
unfolding steps
returns-then-field-eq0 c =
    omega (arith, c.if-field-eq0.true)

pub returns : goal.returns
unfolding steps
returns c =
    search rules
