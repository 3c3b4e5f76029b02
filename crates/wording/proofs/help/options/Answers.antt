-- `options` puts the text.
use Rattle.wording.specs.Help.{option_lines, all_lines}
use Rattle.wording.proofs.help.options.Goals as goal

pub returns : goal.returns
unfolding option_lines all_lines
returns c =
    c.put.ensures
