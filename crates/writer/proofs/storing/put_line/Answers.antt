use native.Mathlib.Omega.{arith}
use mathlib.Core.Path.{refl}
use Rattle.writer.proofs.Forms.{line_end, line_put_at}
use Rattle.writer.proofs.storing.put_line.Goals as goal

pub bounds-out-end : goal.bounds-out-end
bounds-out-end c =
    let room = line_end _ _ _ _ _ _ _ _ c.requires c.place-from.ensures c.end-to.ensures _ _ _ c.put_hex-end.ensures in
    omega (arith, room, c.put_hex-end.auto)

pub returns : goal.returns
returns c =
    line_put_at _ _ _ _ _ _ _ _ c.requires c.place-from.ensures c.end-to.ensures _ _ _ refl c.put_hex-end.ensures
