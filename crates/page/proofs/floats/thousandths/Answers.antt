-- `thousandths` adds half of one and cuts.
use mathlib.Core.Path.{ap}
use Prim.Native.Nat.{ℕ, ◌+◌, ◌*◌, ◌/◌, ◌^◌}
use Rattle.page.specs.Floats.{thousandths}
use Rattle.page.proofs.FloatTexts.{none_at_all}
use Rattle.page.proofs.floats.thousandths.Goals as goal

pub returns-then-s-lt64 : goal.returns-then-s-lt64
unfolding thousandths
returns-then-s-lt64 c =
    ap (λ (n : ℕ). (c.args.q * 1000 + n / 2) / 2 ^ c.args.s) c.power.ensures

pub returns : goal.returns
returns c =
    none_at_all c.args.q c.args.s c.requires c.if-s-lt64.false
