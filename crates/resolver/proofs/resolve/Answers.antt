use Rattle.resolver.proofs.Programs.{resolvable_ready, resolves}
use Rattle.resolver.proofs.resolve.Goals as goal

pub from-requires : goal.from-requires
from-requires c = resolvable_ready c.requires

pub returns : goal.returns
returns c = resolves c.requires c.from.ensures
