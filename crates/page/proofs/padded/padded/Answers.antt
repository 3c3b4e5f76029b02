-- `padded` puts the digits.
use Rattle.page.proofs.Adding.{being}
use Rattle.page.proofs.padded.padded.Goals as goal

pub returns : goal.returns
returns g c = being c.padded_digits.ensures c.put.ensures
