-- `bits` puts digit by digit, the most significant first.
use Prim.Native.Nat.{◌*◌, ◌-◌, ◌/◌, ◌^◌}
use Rattle.page.specs.Floats.{hexadecimal}
use Rattle.page.specs.Text.{Writes}
use Rattle.page.proofs.pages.Page.bits.Given as goal

abbrev pub invariant-loop-left : goal.invariant-loop-left
invariant-loop-left l = Writes (hexadecimal (16 - l.left) (l.bits / 2 ^ (4 * l.left))) l.initial.self l.self
