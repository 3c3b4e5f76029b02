-- `first_alike` follows the way of the bytes to its end.
use native.Mathlib.Omega.{arith}
use mathlib.Core.Path.{refl}
use Prim.Native.Nat.{◌<◌}
use Rattle.tokens.proofs.Seeking.{first_start, hung_found, hung_none}
use Rattle.tokens.proofs.names.first_alike.Goals as goal

pub returns-then-count-eq0 : goal.returns-then-count-eq0
returns-then-count-eq0 c =
    first_start c.if-count-eq0.true c.requires.sought.shape

pub returns-then-hang : goal.returns-then-hang
returns-then-hang c =
    let end = c.way_end-at.ensures in
    let some : 0 < c.args.count = omega (arith, c.if-count-eq0.false) in hung_found c.requires some end refl c.place.ensures c.end.ensures
    c.hang.ensures c.if-hang.true

pub returns : goal.returns
returns c =
    let end = c.way_end-at.ensures in
    let some : 0 < c.args.count = omega (arith, c.if-count-eq0.false) in hung_none c.requires some end refl c.place.ensures c.end.ensures
    c.hang.ensures c.if-hang.false
