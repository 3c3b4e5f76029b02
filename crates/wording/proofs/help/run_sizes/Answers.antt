-- `run_sizes` puts the parts one behind the other.
use Rattle.page.proofs.Adding.{◌▸◌}
use Rattle.wording.specs.Help.{run_sizes}
use Rattle.wording.proofs.help.run_sizes.Goals as goal

pub returns : goal.returns
unfolding run_sizes
returns c =
    c.field.ensures ▸ c.field-2.ensures ▸ c.field-3.ensures ▸ c.field-4.ensures ▸ c.field-5.ensures
    ▸ c.field-6.ensures
