use mir.Syntax.{w32}
use mir.Facts.{to_z-of_z}
use mathlib.Core.Bool.{true, false}
use mathlib.Core.Path.{◌≡◌, refl}
use lib.Signed.{lt_z}
use Rattle.language.specs.Meaning.{towards}
use Rattle.machine.proofs.counting.towards.Goals as goal

pub returns-then-to-from : goal.returns-then-to-from
unfolding towards
returns-then-to-from c =
    let down : lt_z c.args.to c.args.from ≡ true =
    rw (to_z-of_z {w = w32} c.ranges.to, to_z-of_z {w = w32} c.ranges.from) at c.if-to-from.true in
    rw down refl

pub returns-else-to-from : goal.returns-else-to-from
unfolding towards
returns-else-to-from c =
    let up : lt_z c.args.to c.args.from ≡ false =
    rw (to_z-of_z {w = w32} c.ranges.to, to_z-of_z {w = w32} c.ranges.from) at c.if-to-from.false in
    rw up refl
