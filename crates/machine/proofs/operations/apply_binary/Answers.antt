use mir.Syntax.{w32}
use mir.Val.{SFits}
use mir.Facts.{to_z-of_z}
use native.Mathlib.Omega.{arith}
use Rattle.layout.specs.Values.{meant}
use Rattle.machine.specs.Rows.{OnNumbers}
use Rattle.machine.proofs.Reckoning.{applies_ints, stuck_right, applies_assign, stuck_assign, applies_logical}
use borrow.Author.Rules.{rules}
use Rattle.machine.proofs.operations.apply_binary.Goals as goal
use Rattle.machine.proofs.operations.apply_binary.Goals.{in_default-via-then-op-lt25, in_default-via-else-op-lt25+else-op-lt27}

pub returns-in-Some : goal.returns-in-Some
returns-in-Some c =
    applies_assign c.args.op (meant c.args.a) (meant c.args.b) c.requires.0 c.in-29.is c.in-Some.ensures c.assign.ensures

pub returns-in-None : goal.returns-in-None
returns-in-None c =
    stuck_assign c.args.op (meant c.args.a) (meant c.args.b) c.requires.0 c.in-29.is _ c.in-None.ensures

pub returns-in-25 : goal.returns-in-25
returns-in-25 c = applies_logical c.args.op (meant c.args.a) c.args.b c.requires.0 (omega arith) (omega arith)

pub returns-in-Some-Some : goal.returns-in-Some-Some
returns-in-Some-Some c =
    let x : SFits w32 c.in-Some-Some.m = search rules in
    let y : SFits w32 c.in-Some-Some.n = search rules in
    applies_ints c.args.op (meant c.args.a) (meant c.args.b) c.requires.0 _ c.in-Some-Some.ensures c.in-Some-Some.ensures'
    (rw (to_z-of_z {w = w32} x, to_z-of_z {w = w32} y) at c.reckon.ensures)

pub returns-in-Some-None : goal.returns-in-Some-None
returns-in-Some-None c =
    let n : OnNumbers c.args.op =
    elim c.in_default.branch [
      | in_default-via-then-op-lt25 w ↦ (λ e. omega arith, λ e. omega arith, λ e. omega arith)
      | in_default-via-else-op-lt25+else-op-lt27 w ↦ (λ e. omega arith, λ e. omega arith, λ e. omega arith)
    ] in
    stuck_right c.args.op (meant c.args.a) (meant c.args.b) c.requires.0 n _ c.in-Some-None.ensures c.in-Some-None.ensures'
