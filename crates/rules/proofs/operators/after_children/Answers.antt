use native.Mathlib.Omega.{arith}
use Rattle.rules.proofs.ShapeLaws.{two_follow, two_while, two_between}
use Rattle.rules.proofs.operators.after_children.Goals as goal

pub returns-in-32 : goal.returns-in-32
returns-in-32 c = two_follow _ _ c.in-32.is c.follow.ensures

pub returns-in-6 : goal.returns-in-6
returns-in-6 c = two_while _ _ c.in-6.is c.repeat.ensures

pub returns-in_default : goal.returns-in_default
returns-in_default c = two_between _ _ (λ e. omega arith) (λ e. omega arith) c.binary.ensures
