-- `exact` looks for a remainder.
use lib.Dec.{eqb}
use mathlib.Core.Path.{ap}
use Prim.Native.Nat.{ℕ, ◌*◌, ◌%◌}
use Rattle.page.specs.Floats.{is_exact}
use Rattle.page.proofs.FloatTexts.{all_lost}
use Rattle.page.proofs.floats.exact.Goals as goal

pub returns-then-s-lt64 : goal.returns-then-s-lt64
unfolding is_exact
returns-then-s-lt64 c =
    ap (λ (n : ℕ). eqb (c.args.q * 1000 % n) 0) c.power.ensures

pub returns : goal.returns
returns c =
    all_lost c.args.q c.args.s c.requires c.if-s-lt64.false
