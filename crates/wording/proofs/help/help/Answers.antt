-- `help` puts the parts one behind the other.
use Rattle.page.proofs.Adding.{◌▸◌}
use Rattle.wording.specs.Help.{help_text}
use Rattle.wording.proofs.help.help.Goals as goal

pub returns : goal.returns
unfolding help_text
returns c = c.commands.ensures ▸ c.options.ensures ▸ c.others.ensures
