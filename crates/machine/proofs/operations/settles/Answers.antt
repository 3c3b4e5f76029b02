use native.Mathlib.Omega.{arith}
use Rattle.machine.proofs.Applying.{settles_and, settles_or, settles_no, settles_other}
use Rattle.machine.proofs.operations.settles.Goals as goal

pub returns-in-25-Some : goal.returns-in-25-Some
returns-in-25-Some c = settles_and _ c.in-25-Some.is-0 _ _ c.in-25-Some.ensures

pub returns-in-26-Some : goal.returns-in-26-Some
returns-in-26-Some c = settles_or _ c.in-26-Some.is-0 _ _ c.in-26-Some.ensures

pub returns-in_default : goal.returns-in_default
returns-in_default c = settles_other _ _ c.in_default.ensures

pub returns-in_default-2 : goal.returns-in_default-2
returns-in_default-2 c = settles_other _ _ c.in_default.ensures

pub returns-in_default-3 : goal.returns-in_default-3
returns-in_default-3 c = settles_no _ (λ e. omega arith) (λ e. omega arith) _
