use Rattle.std.proofs.Common.{arith}
use Rattle.std.proofs.lemmas.Bool.Decides.{nat_tests}
use Rattle.rules.proofs.ShapeLaws.{children_are}
use Rattle.rules.proofs.operators.children.Goals as goal

pub returns-in-9 : goal.returns-in-9
returns-in-9 c = children_are _ (grind (arith, nat_tests))

pub returns-in_default : goal.returns-in_default
returns-in_default c = children_are _ (grind (arith, nat_tests))

pub returns-in_default-2 : goal.returns-in_default-2
returns-in_default-2 c = children_are _ (grind (arith, nat_tests))

pub returns-in-35 : goal.returns-in-35
returns-in-35 c = children_are _ (grind (arith, nat_tests))

pub returns-in-35-2 : goal.returns-in-35-2
returns-in-35-2 c = children_are _ (grind (arith, nat_tests))

pub returns-in-4 : goal.returns-in-4
returns-in-4 c = children_are _ (grind (arith, nat_tests))

pub returns-in-4-2 : goal.returns-in-4-2
returns-in-4-2 c = children_are _ (grind (arith, nat_tests))
