use mathlib.Core.Path.{refl}
use Rattle.grumpy_c.specs.Reports.{six}
use Rattle.grumpy_c.proofs.reports.write_run_report.Goals as goal

pub returns : goal.returns
unfolding six
returns c =
    rw c.write_three.ensures refl
