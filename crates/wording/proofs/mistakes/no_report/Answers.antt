-- `no_report` puts the parts one behind the other.
use Rattle.page.proofs.Adding.{◌▸◌}
use Rattle.wording.specs.Mistakes.{no_report_text}
use Rattle.wording.proofs.mistakes.no_report.Goals as goal

pub returns : goal.returns
unfolding no_report_text
returns c = c.file.ensures ▸ c.put.ensures
