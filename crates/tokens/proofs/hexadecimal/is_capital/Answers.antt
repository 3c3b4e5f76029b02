-- `is_capital` asks whether the byte is worth anything.
use mathlib.Core.Path.{◌∙◌}
use Rattle.tokens.proofs.HexDigits.{is_digit_capital}
use Rattle.tokens.proofs.hexadecimal.is_capital.Goals as goal

pub returns : goal.returns
returns c = c.is_some.ensures ∙ is_digit_capital _ _ c.worth.ensures
