-- `others` puts the text.
use Rattle.wording.specs.Help.{other_lines, all_lines}
use Rattle.wording.proofs.help.others.Goals as goal

pub returns : goal.returns
unfolding other_lines all_lines
returns c =
    c.put.ensures
