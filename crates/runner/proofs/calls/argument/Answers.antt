use lib.Dec.{lit<, lit≤}
use native.Mathlib.Omega.{arith}
use Rattle.runner.proofs.Arguing.{framed, argument_read, argument_room, next_row, next_number, argues_next}
use Rattle.runner.proofs.calls.argument.Goals as goal

pub link-next-requires : goal.link-next-requires
link-next-requires c =
    ((framed c.requires).long, argument_read c.mark-mark.ensures c.requires, lit< tt)

pub put-requires : goal.put-requires
put-requires c = (
  lit≤ tt,
  omega (arith, argument_room c.mark-mark.ensures c.requires),
  omega (arith, argument_room c.mark-mark.ensures c.requires, (framed c.requires).work),
  lit≤ tt,
)

pub pass-requires : goal.pass-requires
pass-requires c =
    let x = framed c.requires in (
      x.long,
      omega (arith, x.work, c.put.auto.work),
      x.frame,
      x.inside,
      next_row c.mark-mark.ensures c.link-next.ensures c.if-next-eq0.false c.requires,
      next_number c.mark-mark.ensures c.link-next.ensures c.if-next-eq0.false c.requires,
      x.base,
      x.size,
    )

pub returns : goal.returns
returns c =
    argues_next c.mark-mark.ensures c.link-next.ensures c.if-next-eq0.false c.put.ensures.1 c.put.ensures.0
    c.pass.ensures.0 c.pass.ensures.1
