-- What the borrow checker leaves of the readers of Assign, the levels of operators, Un and Atom.
use mathlib.Core.Path.{refl, sym, ◌∙◌}
use native.Mathlib.Omega.{arith}
use Rattle.phrases.proofs.Moving.{top_fits, later, later_with, node_fits}
use Rattle.phrases.proofs.Standing.{within}
use Rattle.phrases.proofs.Answering.{back, known}
use Rattle.phrases.proofs.RowKinds.{constant_within, prefix_within, prefix_small}
use Rattle.phrases.proofs.OperandLaws.{assign_to, atom_constant, numeral_within, atom_numeral, atom_group, atom_block}
use Rattle.phrases.proofs.OperandLaws.{atom_other, un_prefix, un_atom}
use Rattle.phrases.proofs.OperatorLaws.{back_end, back_more, binding, rest_end, rest_none, rest_more, tier_none, tier_first}
use Rattle.phrases.proofs.+phrases.Goals as goal

pub assign-tier-value-requires : goal.tiers::assign-tier-value-requires
assign-tier-value-requires t c =
    let p = c.requires in
    let seen = sym c.part.ensures ∙ c.in-Ok.is in
    let o = (known c.tier-read.ensures seen).ahead in
    let i = within _ _ _ _ (sym c.kind.ensures ∙ c.if-kind-ne-BECOMES.false) (omega arith) in
    later_with p 5 4 c.decreases c.tier-read.auto.table (omega arith) (omega arith) (omega arith) (omega arith)
    (omega arith, omega arith, λ e. omega arith)

pub assign-pair-requires : goal.tiers::assign-pair-requires
assign-pair-requires t c =
    let p = c.requires in
    let seen = sym c.part.ensures ∙ c.in-Ok.is in
    let o = (known c.tier-read.ensures seen).ahead in
    let i = within _ _ _ _ (sym c.kind.ensures ∙ c.if-kind-ne-BECOMES.false) (omega arith) in
    top_fits p _ c.tier-value.ensures (omega arith) (omega arith) (c.tier-value.auto.table ∙ c.tier-read.auto.table) i

pub assign-returns : goal.tiers::assign-returns
assign-returns t c =
    let seen = sym c.part.ensures ∙ c.in-Ok.is in
    assign_to (known c.tier-read.ensures seen) (sym c.kind.ensures ∙ c.if-kind-ne-BECOMES.false) c.tier-value.ensures c.pair.ensures

pub atom-node-requires : goal.tiers::atom-node-requires
atom-node-requires t c =
    let p = c.requires in
    let i = constant_within _ _ _ _ c.kind-k.ensures (sym c.is_constant.ensures ∙ c.if-is_constant.true) in
    node_fits p refl i (omega arith) (omega arith)

pub atom-returns-then-is_constant : goal.tiers::atom-returns-then-is_constant
atom-returns-then-is_constant t c =
    let i = constant_within _ _ _ _ c.kind-k.ensures (sym c.is_constant.ensures ∙ c.if-is_constant.true) in
    atom_constant c.kind-k.ensures (sym c.is_constant.ensures ∙ c.if-is_constant.true) i c.node.ensures

pub atom-node-requires-in-2 : goal.tiers::atom-node-requires-in-2
atom-node-requires-in-2 t c =
    let p = c.requires in
    let i = numeral_within _ _ _ _ c.kind-k.ensures c.in-2.is in
    node_fits p refl i (omega arith) (omega arith)

pub atom-until-inside-requires : goal.tiers::atom-until-inside-requires
atom-until-inside-requires t c =
    let p = c.requires in
    let i = within _ _ _ _ (sym c.kind-k.ensures ∙ c.in-35.is) (omega arith) in
    later_with p 2 9 c.decreases refl (omega arith) (omega arith) (omega arith) (omega arith) (omega arith)

pub atom-around-requires : goal.tiers::atom-around-requires
atom-around-requires t c =
    let p = c.requires in
    let i = within _ _ _ _ (sym c.kind-k.ensures ∙ c.in-35.is) (omega arith) in
    top_fits p _ c.until-inside.ensures (omega arith) (omega arith) c.until-inside.auto.table i

pub atom-until-inside-requires-in-37 : goal.tiers::atom-until-inside-requires-in-37
atom-until-inside-requires-in-37 t c =
    let p = c.requires in
    let i = within _ _ _ _ (sym c.kind-k.ensures ∙ c.in-37.is) (omega arith) in
    later_with p 2 9 c.decreases refl (omega arith) (omega arith) (omega arith) (omega arith) (omega arith)

pub atom-around-requires-in-37 : goal.tiers::atom-around-requires-in-37
atom-around-requires-in-37 t c =
    let p = c.requires in
    let i = within _ _ _ _ (sym c.kind-k.ensures ∙ c.in-37.is) (omega arith) in
    top_fits p _ c.until-inside-in-37.ensures (omega arith) (omega arith) c.until-inside-in-37.auto.table i

pub atom-returns-in-2 : goal.tiers::atom-returns-in-2
atom-returns-in-2 t c =
    atom_numeral c.kind-k.ensures c.in-2.is c.node-in-2.ensures

pub atom-returns-in-35 : goal.tiers::atom-returns-in-35
atom-returns-in-35 t c =
    atom_group c.kind-k.ensures c.in-35.is c.until-inside.ensures c.around.ensures

pub atom-returns-in-37 : goal.tiers::atom-returns-in-37
atom-returns-in-37 t c =
    atom_block c.kind-k.ensures c.in-37.is c.until-inside-in-37.ensures c.around-in-37.ensures

pub atom-returns-in_default : goal.tiers::atom-returns-in_default
atom-returns-in_default t c =
    back (atom_other c.kind-k.ensures (sym c.is_constant.ensures ∙ c.if-is_constant.false) (grind arith) (grind arith) (omega arith) (omega arith)
    (omega arith)) c.failed.ensures

pub rest-returns-then-p-least : goal.tiers::rest-returns-then-p-least
rest-returns-then-p-least t c =
    back_end (rest_end _ _ _ _ _ _ _ _ _ c.requires.le_least.0 c.kind-k.ensures c.tightness-p.ensures c.requires.room c.requires.free_value
    c.requires.le_least.1 c.requires.le_least.3 (let y = c.then-p-least.either in λ s t. grind arith)) c.tree.ensures c.requires.free_value

pub rest-tier-read-requires : goal.tiers::rest-tier-read-requires
rest-tier-read-requires t c =
    let p = c.requires.room in
    let b = c.requires.le_least in
    let y = c.if-p-least.false in
    let z = c.if-p-most.false in
    let x = binding _ _ _ _ _ c.kind-k.ensures c.tightness-p.ensures (omega arith) in
    later_with p 0 4 c.decreases refl (omega arith) (omega arith) (omega arith) (omega arith) (omega arith, omega arith, λ e. x.2 (omega arith))

pub rest-returns : goal.tiers::rest-returns
rest-returns t c =
    let p = c.requires.room in
    let seen = sym c.part.ensures ∙ c.in-Ok.is in
    let o = (known c.tier-read.ensures seen).ahead in
    let y = c.if-p-least.false in
    let z = c.if-p-most.false in
    rest_more _ _ _ _ _ _ _ _ _ c.requires.le_least.0 c.kind-k.ensures c.tightness-p.ensures y z c.requires.free_value (omega arith)
    (known c.tier-read.ensures seen) c.put.ensures _ c.after.ensures c.rest.ensures

pub rest-returns-in_default : goal.tiers::rest-returns-in_default
rest-returns-in_default t c =
    let y = c.if-p-least.false in
    let z = c.if-p-most.false in
    let seen = sym c.part.ensures ∙ c.in_default.is in
    back_more (rest_none _ _ _ _ _ _ _ _ _ c.requires.le_least.0 c.kind-k.ensures c.tightness-p.ensures y z
    (known c.tier-read.ensures seen)) seen

pub tier-returns : goal.tiers::tier-returns
tier-returns t c =
    let seen = sym c.part.ensures ∙ c.in-Ok.is in
    tier_first _ (known c.un-read.ensures seen) c.rest.ensures

pub un-un-operand-requires : goal.tiers::un-un-operand-requires
un-un-operand-requires t c =
    let p = c.requires in
    let i = prefix_within _ _ _ _ c.kind-k.ensures (sym c.is_prefix.ensures ∙ c.if-is_prefix.true) in
    later p 3 3 c.decreases refl (omega arith) (omega arith) (omega arith) (omega arith)

pub un-overflow_add-k : goal.tiers::un-overflow_add-k
un-overflow_add-k t c =
    let s = prefix_small _ (sym c.is_prefix.ensures ∙ c.if-is_prefix.true) in
    omega arith

pub un-over-requires : goal.tiers::un-over-requires
un-over-requires t c =
    let p = c.requires in
    let i = prefix_within _ _ _ _ c.kind-k.ensures (sym c.is_prefix.ensures ∙ c.if-is_prefix.true) in
    top_fits p _ c.un-operand.ensures (omega arith) (omega arith) c.un-operand.auto.table i

pub un-returns-then-is_prefix : goal.tiers::un-returns-then-is_prefix
un-returns-then-is_prefix t c =
    un_prefix c.kind-k.ensures (sym c.is_prefix.ensures ∙ c.if-is_prefix.true) c.un-operand.ensures c.over.ensures

pub un-returns-else-is_prefix : goal.tiers::un-returns-else-is_prefix
un-returns-else-is_prefix t c =
    un_atom c.kind-k.ensures (sym c.is_prefix.ensures ∙ c.if-is_prefix.false) c.atom.ensures

pub tier-returns-in_default : goal.tiers::tier-returns-in_default
tier-returns-in_default t c =
    tier_none c.un-read.ensures (sym c.part.ensures ∙ c.in_default.is) c.requires.le_least.1
