-- `knows` goes by what the number names.
use mathlib.Core.Path.{◌∙◌}
use Rattle.grumpy.proofs.Knowing.{named_known}
use Rattle.grumpy.proofs.knows.Goals as goal

pub returns : goal.returns
returns c =
    c.is_some.ensures ∙ named_known _ _ c.named.ensures
