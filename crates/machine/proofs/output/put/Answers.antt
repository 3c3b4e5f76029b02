use mir.Syntax.{w32}
use mir.Val.{SFits}
use mir.Facts.{to_z-of_z}
use Rattle.layout.specs.Values.{meant}
use Rattle.machine.proofs.Printing.{put_low, put_high, put_out, put_other_kind, put_full, put_done}
use borrow.Author.Rules.{rules}
use Rattle.machine.proofs.output.put.Goals as goal
use Rattle.machine.proofs.output.put.Goals.{then-z-lt0-via-then-z-lt0, then-z-lt0-via-else-z-lt0+then-z-gt-BYTE}

pub returns-in_default : goal.returns-in_default
returns-in_default c = put_other_kind (meant c.args.v) c.requires c.in_default.ensures _ c.stuck.ensures

pub returns-then-z-lt0 : goal.returns-then-z-lt0
returns-then-z-lt0 c =
    let z : SFits w32 c.in-Some.z = search rules in
    elim c.then-z-lt0.branch [
      | then-z-lt0-via-then-z-lt0 w ↦
          put_out (meant c.args.v) c.requires _ c.in-Some.ensures (put_low _ (rw (to_z-of_z {w = w32} z) at w.if-z-lt0.true))
      | then-z-lt0-via-else-z-lt0+then-z-gt-BYTE w ↦
          put_out (meant c.args.v) c.requires _ c.in-Some.ensures (put_high _ (rw (to_z-of_z {w = w32} z) at w.if-z-gt-BYTE.true))
    ]

pub returns-then-out-s : goal.returns-then-out-s
returns-then-out-s c =
    let z : SFits w32 c.in-Some.z = search rules in
    put_full c.in-Some.z (rw (to_z-of_z {w = w32} z) at c.if-z-lt0.false) (rw (to_z-of_z {w = w32} z) at c.if-z-gt-BYTE.false) _ _
    (meant c.args.v) c.in-Some.ensures c.requires c.if-out-s.true

pub returns : goal.returns
returns c =
    let z : SFits w32 c.in-Some.z = search rules in
    rw (to_z-of_z {w = w32} z)
    (put_done c.in-Some.z (rw (to_z-of_z {w = w32} z) at c.if-z-lt0.false) (rw (to_z-of_z {w = w32} z) at c.if-z-gt-BYTE.false) _
    _ c.if-out-s.false _ (rw (to_z-of_z {w = w32} z) at c.store.ensures) (meant c.args.v) c.in-Some.ensures)
