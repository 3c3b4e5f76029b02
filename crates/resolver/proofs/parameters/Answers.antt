-- The parameters in front of `i` are bound.
use Rattle.resolver.proofs.Framing.{taken_none, taken_more}
use Rattle.resolver.proofs.parameters.Goals as goal

pub loop-i-init : goal.loop-i-init
loop-i-init c = taken_none _ _ _

pub loop-i-preserved : goal.loop-i-preserved
loop-i-preserved c =
    taken_more c.requires c.loop-i.invariant c.loop-i-test.true _ _ _ c.link-own.ensures c.value-name.ensures
    c.put_name.ensures
