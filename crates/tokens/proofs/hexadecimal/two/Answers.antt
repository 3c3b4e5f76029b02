-- `two` puts what both bytes are worth together.
use mathlib.Core.Path.{◌∙◌}
use Rattle.tokens.proofs.HexDigits.{two_is, worth_or}
use Rattle.tokens.proofs.hexadecimal.two.Goals as goal

pub returns : goal.returns
returns c =
    let high = c.from-high.ensures ∙ c.unwrap_or.ensures ∙ worth_or _ _ c.worth.ensures in
    let low = c.from-low.ensures ∙ c.unwrap_or-2.ensures ∙ worth_or _ _ c.worth-2.ensures in
    two_is _ _ high low
