use mathlib.Core.Path.{refl}
use Rattle.grumpy_c.specs.Reports.{three}
use Rattle.grumpy_c.proofs.reports.write_three.Goals as goal

pub returns : goal.returns
unfolding three
returns c =
    refl
