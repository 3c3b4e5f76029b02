use mir.Syntax.{w32}
use mir.Val.{SFits}
use mir.Facts.{to_z-of_z}
use native.Mathlib.Omega.{arith}
use Rattle.layout.specs.Values.{meant}
use Rattle.machine.proofs.Applying.{applies_minus, stuck_minus, applies_not, stuck_not, applies_fetch, stuck_fetch}
use borrow.Author.Rules.{rules}
use Rattle.machine.proofs.operations.apply_unary.Goals as goal

pub returns-in-Some : goal.returns-in-Some
returns-in-Some c =
    let z : SFits w32 c.in-Some.a = search rules in
    applies_minus _ (meant c.args.v) _ _ c.in-86.is c.negate.result c.in-Some.ensures (rw (to_z-of_z {w = w32} z) at c.negate.ensures)

pub returns-in-None : goal.returns-in-None
returns-in-None c = stuck_minus _ (meant c.args.v) _ _ c.in-86.is c.stuck.result c.in-None.ensures

pub returns-in-Some-flag_of : goal.returns-in-Some-flag_of
returns-in-Some-flag_of c = applies_not _ (meant c.args.v) _ _ c.in-77.is _ c.in-Some-flag_of.ensures

pub returns-in-None-flag_of : goal.returns-in-None-flag_of
returns-in-None-flag_of c =
    stuck_not _ (meant c.args.v) _ _ c.in-77.is c.stuck-in-None-flag_of.result c.in-None-flag_of.ensures

pub returns-in-Some-cell_of : goal.returns-in-Some-cell_of
returns-in-Some-cell_of c =
    applies_fetch _ (meant c.args.v) _ _ (λ e. omega arith) (λ e. omega arith) c.requires.1 c.fetch.result
    c.in-Some-cell_of.ensures c.fetch.ensures

pub returns-in-None-cell_of : goal.returns-in-None-cell_of
returns-in-None-cell_of c =
    stuck_fetch _ (meant c.args.v) _ _ (λ e. omega arith) (λ e. omega arith) c.requires.1 c.stuck-in-None-cell_of.result
    c.in-None-cell_of.ensures
