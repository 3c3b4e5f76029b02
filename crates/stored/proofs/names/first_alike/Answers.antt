-- `first_alike` follows the way of the digits to its end.
use mathlib.Core.Path.{refl}
use native.Mathlib.Omega.{arith}
use Prim.Native.Nat.{◌<◌}
use Rattle.stored.proofs.NameLaws.{line_near, hangable, hung_found, hung_none, first_start}
use Rattle.stored.proofs.names.first_alike.Goals as goal

pub returns-then-count-eq0 : goal.returns-then-count-eq0
returns-then-count-eq0 c =
    first_start c.if-count-eq0.true c.requires.sought.shape

pub invariant_of-old-clause-inside : goal.invariant_of-old-clause-inside
invariant_of-old-clause-inside c =
    let end = c.way_end-at.ensures in
    let some : 0 < c.args.count = omega (arith, c.if-count-eq0.false) in
    omega (arith, line_near c.requires end some refl refl c.end.ensures, c.requires.bytes.lines)

pub hang-requires : goal.hang-requires
hang-requires c =
    let end = c.way_end-at.ensures in
    let some : 0 < c.args.count = omega (arith, c.if-count-eq0.false) in hangable c.requires end some refl refl c.end.ensures refl

pub returns-then-hang : goal.returns-then-hang
returns-then-hang c =
    let end = c.way_end-at.ensures in
    let some : 0 < c.args.count = omega (arith, c.if-count-eq0.false) in hung_found c.requires end some refl refl c.end.ensures refl
    c.hang.ensures c.if-hang.true

pub returns : goal.returns
returns c =
    let end = c.way_end-at.ensures in
    let some : 0 < c.args.count = omega (arith, c.if-count-eq0.false) in hung_none c.requires end some refl refl c.end.ensures refl
    c.hang.ensures c.if-hang.false
