use native.Mathlib.Omega.{arith}
use Rattle.rules.proofs.BoundLaws.{bounded_few, bounded_not}
use Rattle.rules.proofs.operators.bounded.Goals as goal

pub returns-in-2 : goal.returns-in-2
returns-in-2 c = bounded_few (omega arith) (omega arith)

pub returns-in_default : goal.returns-in_default
returns-in_default c = bounded_not (λ e. omega arith) (λ e. omega arith)
