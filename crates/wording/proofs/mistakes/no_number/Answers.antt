-- `no_number` puts the parts one behind the other.
use Rattle.page.proofs.Adding.{◌▸◌}
use Rattle.wording.specs.Mistakes.{no_number_text}
use Rattle.wording.proofs.mistakes.no_number.Goals as goal

pub returns : goal.returns
unfolding no_number_text
returns c =
    c.put.ensures ▸ c.put-2.ensures ▸ c.put-3.ensures ▸ c.name.ensures ▸ c.put-4.ensures ▸ c.decimal.ensures
    ▸ c.put-5.ensures
