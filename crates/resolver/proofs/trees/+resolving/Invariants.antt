-- A part's row comes before its node's. A call or a `for` is asked for the same row as the node that it is, and what
-- holds its arguments comes before that, so each row has four steps.
use Rattle.std.proofs.Common.{◌+◌, ◌*◌}
use Rattle.resolver.proofs.trees.+resolving.Given as goal

abbrev pub decreases-arguments : goal.decreases-arguments
decreases-arguments l = 4 * l.row

abbrev pub decreases-call : goal.decreases-call
decreases-call l = 4 * l.node + 2

abbrev pub decreases-counted : goal.decreases-counted
decreases-counted l = 4 * l.node + 2

abbrev pub decreases-place : goal.decreases-place
decreases-place l = 4 * l.node + 3
