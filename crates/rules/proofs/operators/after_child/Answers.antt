use Rattle.rules.proofs.ShapeLaws.{one_inside, one_prefixed}
use Rattle.rules.proofs.operators.after_child.Goals as goal

pub returns-then-kind-lt-PREFIX : goal.returns-then-kind-lt-PREFIX
returns-then-kind-lt-PREFIX c =
    one_inside _ _ c.if-kind-lt-PREFIX.true

pub returns : goal.returns
returns c =
    one_prefixed _ _ c.if-kind-lt-PREFIX.false c.unary.ensures
