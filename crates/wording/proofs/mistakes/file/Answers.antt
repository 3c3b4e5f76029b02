-- `file` puts the parts one behind the other.
use Rattle.page.proofs.Adding.{◌▸◌}
use Rattle.wording.specs.Mistakes.{file_text}
use Rattle.wording.proofs.mistakes.file.Goals as goal

pub returns : goal.returns
unfolding file_text
returns c = c.put.ensures ▸ c.name.ensures ▸ c.put-2.ensures
