-- `commands` puts the text.
use Rattle.wording.specs.Help.{command_lines, all_lines}
use Rattle.wording.proofs.help.commands.Goals as goal

pub returns : goal.returns
unfolding command_lines all_lines
returns c =
    c.put.ensures
