-- What the borrow checker leaves of the readers of expressions, which call each other: each file below has the answers of the
-- readers of one file of the source.
mod Items
mod Loops
mod Names
mod Tiers
use Rattle.phrases.proofs.+phrases.Goals as goal

pub items::if_else-until-read-requires : goal.items::if_else-until-read-requires
items::if_else-until-read-requires = Items.if_else-until-read-requires

pub items::if_else-returns : goal.items::if_else-returns
items::if_else-returns = Items.if_else-returns

pub items::let_in-returns-then-kind-ne-NAME : goal.items::let_in-returns-then-kind-ne-NAME
items::let_in-returns-then-kind-ne-NAME = Items.let_in-returns-then-kind-ne-NAME

pub items::let_in-returns-then-kind-ne-IS : goal.items::let_in-returns-then-kind-ne-IS
items::let_in-returns-then-kind-ne-IS = Items.let_in-returns-then-kind-ne-IS

pub items::let_in-until-read-requires : goal.items::let_in-until-read-requires
items::let_in-until-read-requires = Items.let_in-until-read-requires

pub items::let_in-returns : goal.items::let_in-returns
items::let_in-returns = Items.let_in-returns

pub items::seq-seq-rest-requires : goal.items::seq-seq-rest-requires
items::seq-seq-rest-requires = Items.seq-seq-rest-requires

pub items::seq-pair-requires : goal.items::seq-pair-requires
items::seq-pair-requires = Items.seq-pair-requires

pub items::seq-returns : goal.items::seq-returns
items::seq-returns = Items.seq-returns

pub items::while_block-until-read-requires : goal.items::while_block-until-read-requires
items::while_block-until-read-requires = Items.while_block-until-read-requires

pub items::while_block-returns : goal.items::while_block-returns
items::while_block-returns = Items.while_block-returns

pub loops::ends-tier-step-requires : goal.loops::ends-tier-step-requires
loops::ends-tier-step-requires = Loops.ends-tier-step-requires

pub loops::ends-returns : goal.loops::ends-returns
loops::ends-returns = Loops.ends-returns

pub loops::ends-returns-then-kind-ne-BY : goal.loops::ends-returns-then-kind-ne-BY
loops::ends-returns-then-kind-ne-BY = Loops.ends-returns-then-kind-ne-BY

pub loops::ends-returns-in_default : goal.loops::ends-returns-in_default
loops::ends-returns-in_default = Loops.ends-returns-in_default

pub loops::for_in-returns-then-kind-ne-NAME : goal.loops::for_in-returns-then-kind-ne-NAME
loops::for_in-returns-then-kind-ne-NAME = Loops.for_in-returns-then-kind-ne-NAME

pub loops::for_in-returns-then-kind-ne-IN : goal.loops::for_in-returns-then-kind-ne-IN
loops::for_in-returns-then-kind-ne-IN = Loops.for_in-returns-then-kind-ne-IN

pub loops::for_in-tier-read-requires : goal.loops::for_in-tier-read-requires
loops::for_in-tier-read-requires = Loops.for_in-tier-read-requires

pub loops::for_in-returns-then-not-is_range : goal.loops::for_in-returns-then-not-is_range
loops::for_in-returns-then-not-is_range = Loops.for_in-returns-then-not-is_range

pub loops::for_in-ends-rest-requires : goal.loops::for_in-ends-rest-requires
loops::for_in-ends-rest-requires = Loops.for_in-ends-rest-requires

pub loops::for_in-returns-then-kind-ne-LBRACE : goal.loops::for_in-returns-then-kind-ne-LBRACE
loops::for_in-returns-then-kind-ne-LBRACE = Loops.for_in-returns-then-kind-ne-LBRACE

pub loops::for_in-until-body-requires : goal.loops::for_in-until-body-requires
loops::for_in-until-body-requires = Loops.for_in-until-body-requires

pub loops::for_in-around-block-requires : goal.loops::for_in-around-block-requires
loops::for_in-around-block-requires = Loops.for_in-around-block-requires

pub loops::for_in-returns : goal.loops::for_in-returns
loops::for_in-returns = Loops.for_in-returns

pub loops::for_in-returns-in_default-part : goal.loops::for_in-returns-in_default-part
loops::for_in-returns-in_default-part = Loops.for_in-returns-in_default-part

pub names::arguments-around-requires : goal.names::arguments-around-requires
names::arguments-around-requires = Names.arguments-around-requires

pub names::arguments-returns-in-36 : goal.names::arguments-returns-in-36
names::arguments-returns-in-36 = Names.arguments-returns-in-36

pub names::arguments-returns-in_default-kind : goal.names::arguments-returns-in_default-kind
names::arguments-returns-in_default-kind = Names.arguments-returns-in_default-kind

pub names::arguments-arguments-list-requires : goal.names::arguments-arguments-list-requires
names::arguments-arguments-list-requires = Names.arguments-arguments-list-requires

pub names::arguments-returns-in-33 : goal.names::arguments-returns-in-33
names::arguments-returns-in-33 = Names.arguments-returns-in-33

pub names::arguments-returns-in_default : goal.names::arguments-returns-in_default
names::arguments-returns-in_default = Names.arguments-returns-in_default

pub names::named-node-requires : goal.names::named-node-requires
names::named-node-requires = Names.named-node-requires

pub names::named-returns-then-kind-ne-LPAR : goal.names::named-returns-then-kind-ne-LPAR
names::named-returns-then-kind-ne-LPAR = Names.named-returns-then-kind-ne-LPAR

pub names::named-node-requires-then-kind-eq-RPAR : goal.names::named-node-requires-then-kind-eq-RPAR
names::named-node-requires-then-kind-eq-RPAR = Names.named-node-requires-then-kind-eq-RPAR

pub names::named-returns-then-kind-eq-RPAR : goal.names::named-returns-then-kind-eq-RPAR
names::named-returns-then-kind-eq-RPAR = Names.named-returns-then-kind-eq-RPAR

pub names::named-arguments-list-requires : goal.names::named-arguments-list-requires
names::named-arguments-list-requires = Names.named-arguments-list-requires

pub names::named-over-requires : goal.names::named-over-requires
names::named-over-requires = Names.named-over-requires

pub names::named-returns : goal.names::named-returns
names::named-returns = Names.named-returns

pub tiers::assign-tier-value-requires : goal.tiers::assign-tier-value-requires
tiers::assign-tier-value-requires = Tiers.assign-tier-value-requires

pub tiers::assign-pair-requires : goal.tiers::assign-pair-requires
tiers::assign-pair-requires = Tiers.assign-pair-requires

pub tiers::assign-returns : goal.tiers::assign-returns
tiers::assign-returns = Tiers.assign-returns

pub tiers::atom-node-requires : goal.tiers::atom-node-requires
tiers::atom-node-requires = Tiers.atom-node-requires

pub tiers::atom-returns-then-is_constant : goal.tiers::atom-returns-then-is_constant
tiers::atom-returns-then-is_constant = Tiers.atom-returns-then-is_constant

pub tiers::atom-node-requires-in-2 : goal.tiers::atom-node-requires-in-2
tiers::atom-node-requires-in-2 = Tiers.atom-node-requires-in-2

pub tiers::atom-until-inside-requires : goal.tiers::atom-until-inside-requires
tiers::atom-until-inside-requires = Tiers.atom-until-inside-requires

pub tiers::atom-around-requires : goal.tiers::atom-around-requires
tiers::atom-around-requires = Tiers.atom-around-requires

pub tiers::atom-until-inside-requires-in-37 : goal.tiers::atom-until-inside-requires-in-37
tiers::atom-until-inside-requires-in-37 = Tiers.atom-until-inside-requires-in-37

pub tiers::atom-around-requires-in-37 : goal.tiers::atom-around-requires-in-37
tiers::atom-around-requires-in-37 = Tiers.atom-around-requires-in-37

pub tiers::atom-returns-in-2 : goal.tiers::atom-returns-in-2
tiers::atom-returns-in-2 = Tiers.atom-returns-in-2

pub tiers::atom-returns-in-35 : goal.tiers::atom-returns-in-35
tiers::atom-returns-in-35 = Tiers.atom-returns-in-35

pub tiers::atom-returns-in-37 : goal.tiers::atom-returns-in-37
tiers::atom-returns-in-37 = Tiers.atom-returns-in-37

pub tiers::atom-returns-in_default : goal.tiers::atom-returns-in_default
tiers::atom-returns-in_default = Tiers.atom-returns-in_default

pub tiers::rest-returns-then-p-least : goal.tiers::rest-returns-then-p-least
tiers::rest-returns-then-p-least = Tiers.rest-returns-then-p-least

pub tiers::rest-tier-read-requires : goal.tiers::rest-tier-read-requires
tiers::rest-tier-read-requires = Tiers.rest-tier-read-requires

pub tiers::rest-returns : goal.tiers::rest-returns
tiers::rest-returns = Tiers.rest-returns

pub tiers::rest-returns-in_default : goal.tiers::rest-returns-in_default
tiers::rest-returns-in_default = Tiers.rest-returns-in_default

pub tiers::tier-returns : goal.tiers::tier-returns
tiers::tier-returns = Tiers.tier-returns

pub tiers::un-un-operand-requires : goal.tiers::un-un-operand-requires
tiers::un-un-operand-requires = Tiers.un-un-operand-requires

pub tiers::un-overflow_add-k : goal.tiers::un-overflow_add-k
tiers::un-overflow_add-k = Tiers.un-overflow_add-k

pub tiers::un-over-requires : goal.tiers::un-over-requires
tiers::un-over-requires = Tiers.un-over-requires

pub tiers::un-returns-then-is_prefix : goal.tiers::un-returns-then-is_prefix
tiers::un-returns-then-is_prefix = Tiers.un-returns-then-is_prefix

pub tiers::un-returns-else-is_prefix : goal.tiers::un-returns-else-is_prefix
tiers::un-returns-else-is_prefix = Tiers.un-returns-else-is_prefix

pub items::until-returns-in_default : goal.items::until-returns-in_default
items::until-returns-in_default = Items.until-returns-in_default

pub items::until-returns-then-kind-mark : goal.items::until-returns-then-kind-mark
items::until-returns-then-kind-mark = Items.until-returns-then-kind-mark

pub items::until-returns-else-kind-mark : goal.items::until-returns-else-kind-mark
items::until-returns-else-kind-mark = Items.until-returns-else-kind-mark

pub items::let_in-returns-in_default : goal.items::let_in-returns-in_default
items::let_in-returns-in_default = Items.let_in-returns-in_default

pub items::if_else-returns-in_default : goal.items::if_else-returns-in_default
items::if_else-returns-in_default = Items.if_else-returns-in_default

pub items::if_else-returns-in_default-part : goal.items::if_else-returns-in_default-part
items::if_else-returns-in_default-part = Items.if_else-returns-in_default-part

pub items::while_block-returns-in_default : goal.items::while_block-returns-in_default
items::while_block-returns-in_default = Items.while_block-returns-in_default

pub tiers::tier-returns-in_default : goal.tiers::tier-returns-in_default
tiers::tier-returns-in_default = Tiers.tier-returns-in_default

pub loops::for_in-returns-in_default : goal.loops::for_in-returns-in_default
loops::for_in-returns-in_default = Loops.for_in-returns-in_default
