-- What the borrow checker leaves of the readers of Seq, Tail, Let and Item.
use mathlib.Core.Path.{refl, sym, ◌∙◌}
use native.Mathlib.Omega.{arith}
use Rattle.phrases.proofs.Moving.{top_fits, later, later_with}
use Rattle.phrases.proofs.ItemLaws.{if_none, then_none, if_all, body, while_none, while_all}
use Rattle.phrases.proofs.Standing.{within}
use Rattle.phrases.proofs.Answering.{back, known}
use Rattle.phrases.proofs.SeqLaws.{let_name, let_is, let_none, let_all, seq_more, until_here, until_other, until_none}
use Rattle.phrases.proofs.+phrases.Goals as goal

pub if_else-until-read-requires : goal.items::if_else-until-read-requires
if_else-until-read-requires t c =
    let p = c.requires.room in
    let i = within _ _ _ _ c.requires.at_value (omega arith) in
    later_with p 6 9 c.decreases refl (omega arith) (omega arith) (omega arith) (omega arith) (omega arith)

pub if_else-returns : goal.items::if_else-returns
if_else-returns t c =
    let seen₁ = sym c.part.ensures ∙ c.in-Ok.is in
    let seen₂ = sym c.part-2.ensures ∙ c.in-Ok-part.is in
    if_all c.requires.at_value (known c.until-read.ensures seen₁) (known c.until-read_yes.ensures seen₂) c.clause-no.ensures c.choice.ensures

pub let_in-returns-then-kind-ne-NAME : goal.items::let_in-returns-then-kind-ne-NAME
let_in-returns-then-kind-ne-NAME t c =
    back (let_name c.requires.at_value (λ e. c.if-kind-ne-NAME.true (c.kind.ensures ∙ e))) c.failed.ensures

pub let_in-returns-then-kind-ne-IS : goal.items::let_in-returns-then-kind-ne-IS
let_in-returns-then-kind-ne-IS t c =
    back (let_is c.requires.at_value (sym c.kind.ensures ∙ c.if-kind-ne-NAME.false) (λ e. c.if-kind-ne-IS.true (c.kind-2.ensures ∙ e)))
    c.failed-then-kind-ne-IS.ensures

pub let_in-until-read-requires : goal.items::let_in-until-read-requires
let_in-until-read-requires t c =
    let p = c.requires.room in
    let i = within _ _ _ _ (sym c.kind-2.ensures ∙ c.if-kind-ne-IS.false) (omega arith) in
    later_with p 6 9 c.decreases refl (omega arith) (omega arith) (omega arith) (omega arith) (omega arith)

pub let_in-returns : goal.items::let_in-returns
let_in-returns t c =
    let seen = sym c.part.ensures ∙ c.in-Ok.is in
    let_all c.requires.at_value (sym c.kind.ensures ∙ c.if-kind-ne-NAME.false) (sym c.kind-2.ensures ∙ c.if-kind-ne-IS.false)
    (known c.until-read.ensures seen) c.seq-body.ensures c.pair.ensures

pub seq-seq-rest-requires : goal.items::seq-seq-rest-requires
seq-seq-rest-requires t c =
    let p = c.requires in
    let seen = sym c.part.ensures ∙ c.in-Ok.is in
    let o = (known c.clause-read.ensures seen).ahead in
    let i = within _ _ _ _ (sym c.kind.ensures ∙ c.if-kind-ne-SEMI.false) (omega arith) in
    later p 8 8 c.decreases c.clause-read.auto.table (omega arith) (omega arith) (omega arith) (omega arith)

pub seq-pair-requires : goal.items::seq-pair-requires
seq-pair-requires t c =
    let p = c.requires in
    let seen = sym c.part.ensures ∙ c.in-Ok.is in
    let o = (known c.clause-read.ensures seen).ahead in
    let i = within _ _ _ _ (sym c.kind.ensures ∙ c.if-kind-ne-SEMI.false) (omega arith) in
    top_fits p _ c.seq-rest.ensures (omega arith) (omega arith) (c.seq-rest.auto.table ∙ c.clause-read.auto.table) i

pub seq-returns : goal.items::seq-returns
seq-returns t c =
    let seen = sym c.part.ensures ∙ c.in-Ok.is in
    seq_more (known c.clause-read.ensures seen) (sym c.kind.ensures ∙ c.if-kind-ne-SEMI.false) c.seq-rest.ensures c.pair.ensures

pub while_block-until-read-requires : goal.items::while_block-until-read-requires
while_block-until-read-requires t c =
    let p = c.requires.room in
    let i = within _ _ _ _ c.requires.at_value (omega arith) in
    later_with p 6 9 c.decreases refl (omega arith) (omega arith) (omega arith) (omega arith) (omega arith)

pub while_block-returns : goal.items::while_block-returns
while_block-returns t c =
    let seen = sym c.part.ensures ∙ c.in-Ok.is in
    while_all c.requires.at_value (known c.until-read.ensures seen) (body c.until-body.ensures c.around-block.ensures) c.pair.ensures

pub until-returns-in_default : goal.items::until-returns-in_default
until-returns-in_default t c =
    until_none c.seq-read.ensures (sym c.part.ensures ∙ c.in_default.is)

pub until-returns-then-kind-mark : goal.items::until-returns-then-kind-mark
until-returns-then-kind-mark t c =
    until_here c.seq-read.ensures (sym c.part.ensures ∙ c.in-Ok.is) c.requires.le_mark (sym c.kind.ensures ∙ c.if-kind-mark.true)

pub until-returns-else-kind-mark : goal.items::until-returns-else-kind-mark
until-returns-else-kind-mark t c =
    until_other c.seq-read.ensures (sym c.part.ensures ∙ c.in-Ok.is) (λ e. c.if-kind-mark.false (c.kind.ensures ∙ e)) c.failed.ensures

pub let_in-returns-in_default : goal.items::let_in-returns-in_default
let_in-returns-in_default t c =
    let_none c.requires.at_value (sym c.kind.ensures ∙ c.if-kind-ne-NAME.false) (sym c.kind-2.ensures ∙ c.if-kind-ne-IS.false)
    c.until-read.ensures (sym c.part.ensures ∙ c.in_default.is)

pub if_else-returns-in_default : goal.items::if_else-returns-in_default
if_else-returns-in_default t c =
    if_none c.requires.at_value c.until-read.ensures (sym c.part.ensures ∙ c.in_default.is)

pub if_else-returns-in_default-part : goal.items::if_else-returns-in_default-part
if_else-returns-in_default-part t c =
    then_none c.requires.at_value c.until-read.ensures (sym c.part.ensures ∙ c.in-Ok.is) c.until-read_yes.ensures (sym c.part-2.ensures ∙ c.in_default-part.is)

pub while_block-returns-in_default : goal.items::while_block-returns-in_default
while_block-returns-in_default t c =
    while_none c.requires.at_value c.until-read.ensures (sym c.part.ensures ∙ c.in_default.is)
