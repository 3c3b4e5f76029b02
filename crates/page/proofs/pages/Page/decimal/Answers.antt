-- `decimal` puts the digits that `io` finds.
use Rattle.page.proofs.Adding.{being}
use Rattle.page.proofs.Decimals.{decimals}
use Rattle.page.proofs.pages.Page.decimal.Goals as goal

pub returns : goal.returns
returns c = being (decimals c.decimal-k.ensures.len c.decimal-k.ensures.digits) c.put.ensures
