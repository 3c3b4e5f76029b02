-- What the borrow checker leaves of the readers of names and calls.
use mathlib.Core.Path.{refl, sym, subst, ◌∙◌}
use native.Mathlib.Omega.{arith}
use Rattle.phrases.proofs.Moving.{node_fits, call_fits, second_with}
use Rattle.phrases.proofs.Standing.{within}
use Rattle.phrases.specs.Parts.{Placed}
use Rattle.phrases.proofs.Answering.{known, written}
use Rattle.phrases.proofs.Listing.{back_all}
use Rattle.phrases.proofs.CallLaws.{args_none, args_other, args_last, args_more, just_name, call_none, call_some}
use Rattle.phrases.proofs.+phrases.Goals as goal

pub arguments-around-requires : goal.names::arguments-around-requires
arguments-around-requires t c =
    let p = c.requires.room in
    let seen = sym c.part.ensures ∙ c.in-Ok.is in
    let o = (known c.seq-read.ensures seen).ahead in
    let i = within _ _ _ _ (sym c.kind.ensures ∙ c.in-36.is) (omega arith) in
    (omega arith, omega arith, subst Placed (sym seen) (omega arith, omega arith))

pub arguments-returns-in-36 : goal.names::arguments-returns-in-36
arguments-returns-in-36 t c =
    let i = within _ _ _ _ (sym c.kind.ensures ∙ c.in-36.is) (omega arith) in
    let seen = sym c.part.ensures ∙ c.in-Ok.is in
    args_last (known c.seq-read.ensures seen) (sym c.kind.ensures ∙ c.in-36.is) i (written _ _ seen c.around.ensures)

pub arguments-returns-in_default-kind : goal.names::arguments-returns-in_default-kind
arguments-returns-in_default-kind t c =
    let seen = sym c.part.ensures ∙ c.in-Ok.is in
    back_all (args_other (known c.seq-read.ensures seen) (omega arith) (omega arith)) c.failed.ensures

pub arguments-arguments-list-requires : goal.names::arguments-arguments-list-requires
arguments-arguments-list-requires t c =
    let p = c.requires.room in
    let seen = sym c.part.ensures ∙ c.in-Ok.is in
    let o = (known c.seq-read.ensures seen).ahead in
    let i = within _ _ _ _ (sym c.kind.ensures ∙ c.in-33.is) (omega arith) in
    second_with p 17 17 c.decreases c.seq-read.auto.table (omega arith) (omega arith) (omega arith) (omega arith) c.requires.own_lt_count

pub arguments-returns-in-33 : goal.names::arguments-returns-in-33
arguments-returns-in-33 t c =
    let seen = sym c.part.ensures ∙ c.in-Ok.is in
    args_more (known c.seq-read.ensures seen) _ (sym c.kind.ensures ∙ c.in-33.is) c.arguments-list.ensures c.pair.ensures

pub arguments-returns-in_default : goal.names::arguments-returns-in_default
arguments-returns-in_default t c =
    let seen = sym c.part.ensures ∙ c.in_default.is in
    back_all (args_none (known c.seq-read.ensures seen)) seen

pub named-node-requires : goal.names::named-node-requires
named-node-requires t c =
    let p = c.requires.room in
    let i = within _ _ _ _ c.requires.at_value (omega arith) in
    node_fits p refl i (omega arith) (omega arith)

pub named-returns-then-kind-ne-LPAR : goal.names::named-returns-then-kind-ne-LPAR
named-returns-then-kind-ne-LPAR t c =
    let i = within _ _ _ _ c.requires.at_value (omega arith) in
    just_name c.requires.at_value (λ e. c.if-kind-ne-LPAR.true (c.kind.ensures ∙ e)) i c.node.ensures

pub named-node-requires-then-kind-eq-RPAR : goal.names::named-node-requires-then-kind-eq-RPAR
named-node-requires-then-kind-eq-RPAR t c =
    let p = c.requires.room in
    let i = within _ _ _ _ c.requires.at_value (omega arith) in
    node_fits p refl i (omega arith) (omega arith)

pub named-returns-then-kind-eq-RPAR : goal.names::named-returns-then-kind-eq-RPAR
named-returns-then-kind-eq-RPAR t c =
    let j = within _ _ _ _ (sym c.kind-2.ensures ∙ c.if-kind-eq-RPAR.true) (omega arith) in
    call_none c.requires.at_value (sym c.kind.ensures ∙ c.if-kind-ne-LPAR.false) (sym c.kind-2.ensures ∙ c.if-kind-eq-RPAR.true) j
    c.node-then-kind-eq-RPAR.ensures

pub named-arguments-list-requires : goal.names::named-arguments-list-requires
named-arguments-list-requires t c =
    let p = c.requires.room in
    let i = within _ _ _ _ c.requires.at_value (omega arith) in
    let j = within _ _ _ _ (sym c.kind.ensures ∙ c.if-kind-ne-LPAR.false) (omega arith) in
    second_with p 1 17 c.decreases refl (omega arith) (omega arith) (omega arith) (omega arith) i

pub named-over-requires : goal.names::named-over-requires
named-over-requires t c =
    let p = c.requires.room in
    let i = within _ _ _ _ c.requires.at_value (omega arith) in
    call_fits p _ c.arguments-list.ensures (omega arith) c.arguments-list.auto.table i

pub named-returns : goal.names::named-returns
named-returns t c =
    call_some c.requires.at_value (sym c.kind.ensures ∙ c.if-kind-ne-LPAR.false) _ (λ e. c.if-kind-eq-RPAR.false (c.kind-2.ensures ∙ e))
    c.arguments-list.ensures c.over.ensures
