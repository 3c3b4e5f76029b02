use native.Mathlib.Omega.{arith}
use Rattle.resolver.proofs.Programs.{parameters_ready, body_ready, rest_ready, function_done, main_ready, ended}
use Rattle.resolver.proofs.+from.Goals as goal

pub parameters-requires : goal.parameters-requires
parameters-requires t c =
    parameters_ready c.requires c.if-k-defs.true c.row-row.ensures c.link-count.ensures c.link-body.ensures

pub place-requires : goal.place-requires
place-requires t c =
    body_ready c.requires c.if-k-defs.true c.row-row.ensures c.link-count.ensures c.link-body.ensures
    c.parameters.ensures

pub from-requires : goal.from-requires
from-requires t c = (
  omega (arith, c.decreases, c.if-k-defs.true),
  rest_ready c.requires c.if-k-defs.true c.row-row.ensures c.link-count.ensures c.link-body.ensures
      c.parameters.ensures c.place.ensures,
)

pub returns-then-k-defs : goal.returns-then-k-defs
returns-then-k-defs t c =
    function_done c.if-k-defs.true c.row-row.ensures c.link-count.ensures c.link-body.ensures
    c.parameters.ensures c.place.ensures
    c.from.ensures

pub place-requires-2 : goal.place-requires-2
place-requires-2 t c = main_ready c.requires c.if-k-defs.false

pub returns : goal.returns
returns t c = ended c.if-k-defs.false c.place-2.ensures
