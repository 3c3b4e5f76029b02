-- The measure of each reader of expressions: twelve for each token that is left, and its rule's rank. Arguments stand two tokens
-- behind their name, so their rank may be, and is, more than twelve: `tools/stack` tells from the ranks how many tokens a call
-- passes at least. A `for` asks for no Or but at later tokens, and what is behind its mark neither: theirs is below Or's.
use Rattle.std.proofs.Common.{◌+◌, ◌*◌, ◌-◌}
use Rattle.phrases.proofs.+phrases.Given as goal

abbrev pub decreases-items::clause : goal.decreases-items::clause
decreases-items::clause l = 12 * (l.count - l.at) + 7

abbrev pub decreases-items::if_else : goal.decreases-items::if_else
decreases-items::if_else l = 12 * (l.count - l.at) + 6

abbrev pub decreases-items::let_in : goal.decreases-items::let_in
decreases-items::let_in l = 12 * (l.count - l.at) + 6

abbrev pub decreases-items::seq : goal.decreases-items::seq
decreases-items::seq l = 12 * (l.count - l.at) + 8

abbrev pub decreases-items::until : goal.decreases-items::until
decreases-items::until l = 12 * (l.count - l.at) + 9

abbrev pub decreases-items::while_block : goal.decreases-items::while_block
decreases-items::while_block l = 12 * (l.count - l.at) + 6

abbrev pub decreases-loops::ends : goal.decreases-loops::ends
decreases-loops::ends l = 12 * (l.count - l.at) + 3

abbrev pub decreases-loops::for_in : goal.decreases-loops::for_in
decreases-loops::for_in l = 12 * (l.count - l.at) + 3

abbrev pub decreases-names::arguments : goal.decreases-names::arguments
decreases-names::arguments l = 12 * (l.count - l.at) + 17

abbrev pub decreases-names::named : goal.decreases-names::named
decreases-names::named l = 12 * (l.count - l.at) + 1

abbrev pub decreases-tiers::assign : goal.decreases-tiers::assign
decreases-tiers::assign l = 12 * (l.count - l.at) + 5

abbrev pub decreases-tiers::atom : goal.decreases-tiers::atom
decreases-tiers::atom l = 12 * (l.count - l.at) + 2

abbrev pub decreases-tiers::rest : goal.decreases-tiers::rest
decreases-tiers::rest l = 12 * (l.count - l.at) + 0

abbrev pub decreases-tiers::tier : goal.decreases-tiers::tier
decreases-tiers::tier l = 12 * (l.count - l.at) + 4

abbrev pub decreases-tiers::un : goal.decreases-tiers::un
decreases-tiers::un l = 12 * (l.count - l.at) + 3
