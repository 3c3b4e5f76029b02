use mathlib.Core.Path.{refl}
use Rattle.grumpy_c.specs.Profilings.{four}
use Rattle.grumpy_c.proofs.reports.write_profile_report.Goals as goal

pub returns : goal.returns
unfolding four
returns c =
    rw c.write_three.ensures refl
