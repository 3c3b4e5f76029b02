-- `version` puts the parts one behind the other.
use Rattle.page.proofs.Adding.{◌▸◌}
use Rattle.wording.specs.Help.{version_text}
use Rattle.wording.proofs.help.version.Goals as goal

pub returns : goal.returns
unfolding version_text
returns c = c.put.ensures ▸ c.sheet_sizes.ensures ▸ c.run_sizes.ensures
