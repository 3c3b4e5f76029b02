-- `base` goes by the number.
use native.Mathlib.Omega.{arith}
use Rattle.wording.proofs.Refs.{unit_base}
use Rattle.wording.proofs.types.base.Goals as goal

pub returns-in_default : goal.returns-in_default
returns-in_default c = unit_base c.args.number (λ e. omega arith) (λ e. omega arith) (λ e. omega arith)
