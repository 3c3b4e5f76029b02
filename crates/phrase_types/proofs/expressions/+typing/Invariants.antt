-- The tokens that a node covers, or a list of expressions: a child covers fewer than its node. A node's own function
-- is called on the same node, so each count has two steps.
use Rattle.std.proofs.Common.{◌+◌, ◌*◌}
use Rattle.phrase_types.proofs.CoveredLaws.{covered, covered_all}
use Rattle.phrase_types.proofs.expressions.+typing.Given as goal

abbrev pub decreases-arguments : goal.decreases-arguments
decreases-arguments l = 2 * covered_all l.table.now l.row + 1

abbrev pub decreases-bind : goal.decreases-bind
decreases-bind l = 2 * covered l.table.now l.node

abbrev pub decreases-branch : goal.decreases-branch
decreases-branch l = 2 * covered l.table.now l.node

abbrev pub decreases-call : goal.decreases-call
decreases-call l = 2 * covered l.table.now l.node

abbrev pub decreases-counted : goal.decreases-counted
decreases-counted l = 2 * covered l.table.now l.node

abbrev pub decreases-over_one : goal.decreases-over_one
decreases-over_one l = 2 * covered l.table.now l.node

abbrev pub decreases-over_two : goal.decreases-over_two
decreases-over_two l = 2 * covered l.table.now l.node

abbrev pub decreases-type_at : goal.decreases-type_at
decreases-type_at l = 2 * covered l.table.now l.node + 1
