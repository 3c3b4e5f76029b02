-- `pounds` puts whole ones, a point and digits.
use Rattle.page.proofs.Adding.{◌▸◌}
use Rattle.page.specs.Money.{pounds_text}
use Rattle.page.proofs.pages.Page.pounds.Goals as goal

pub returns : goal.returns
unfolding pounds_text
returns c = c.decimal.ensures ▸ c.put.ensures ▸ c.padded.ensures
