use native.Mathlib.Omega.{arith}
use Rattle.machine.proofs.Computing.{computes_add, computes_sub, computes_mul, computes_div, computes_less, computes_equal}
use Rattle.machine.proofs.operations.compute.Goals as goal

pub returns-in-21 : goal.returns-in-21
returns-in-21 c = computes_add c.args.op c.args.x c.args.y c.in-21.is

pub returns-in-22 : goal.returns-in-22
returns-in-22 c = computes_sub c.args.op c.args.x c.args.y c.in-22.is

pub returns-in-23 : goal.returns-in-23
returns-in-23 c = computes_mul c.args.op c.args.x c.args.y c.in-23.is

pub returns-in-24 : goal.returns-in-24
returns-in-24 c = computes_div c.args.op c.args.x c.args.y c.in-24.is

pub returns-in-27 : goal.returns-in-27
returns-in-27 c = computes_less c.args.op c.args.x c.args.y c.in-27.is

pub returns-in_default : goal.returns-in_default
returns-in_default c =
    computes_equal c.args.op c.args.x c.args.y c.requires (λ e. omega arith) (λ e. omega arith) (λ e. omega arith)
    (λ e. omega arith) (λ e. omega arith) c.stuck.result
