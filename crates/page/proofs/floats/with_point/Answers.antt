-- `with_point` puts whole ones, a point and digits.
use Rattle.page.proofs.Adding.{◌▸◌}
use Rattle.page.specs.Floats.{thousandths_text}
use Rattle.page.proofs.floats.with_point.Goals as goal

pub returns : goal.returns
unfolding thousandths_text
returns c = c.decimal.ensures ▸ c.put.ensures ▸ c.padded.ensures
