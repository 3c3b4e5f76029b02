-- `bits` divides two whole numbers of as many digits as there may be.
use mathlib.Core.Path.{◌∙◌}
use Rattle.tokens.proofs.Decimals.{power_exact, divided}
use Rattle.tokens.proofs.floats.bits.Goals as goal

pub int_to_float-power : goal.int_to_float-power
int_to_float-power c =
    power_exact c.requires c.pow-power.ensures

pub returns : goal.returns
returns c =
    c.bits.ensures ∙ divided c.requires c.all_digits-all.ensures.0 c.pow-power.ensures
