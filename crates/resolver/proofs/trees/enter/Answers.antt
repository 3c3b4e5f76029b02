use Rattle.resolver.proofs.Framing.{entered}
use Rattle.resolver.proofs.trees.enter.Goals as goal

pub returns : goal.returns
returns c =
    entered _ _ _ _ _ _ _ _ c.requires.0 c.requires.2 c.link-own.ensures c.value-number.ensures
    c.put_name.ensures c.put_name-2.ensures
    c.put_name-3.ensures
