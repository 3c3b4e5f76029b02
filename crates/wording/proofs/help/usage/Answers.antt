-- `usage` puts the text.
use Rattle.wording.specs.Help.{usage_text, all_lines}
use Rattle.wording.proofs.help.usage.Goals as goal

pub returns : goal.returns
unfolding usage_text all_lines
returns c =
    c.put.ensures
