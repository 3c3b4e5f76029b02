-- What the borrow checker leaves of the readers of counted loops.
use mathlib.Core.Path.{refl, sym, ◌∙◌}
use native.Mathlib.Omega.{arith}
use Rattle.phrases.proofs.Moving.{top_fits, later_with}
use Rattle.phrases.proofs.ItemLaws.{body}
use Rattle.phrases.proofs.Standing.{within}
use Rattle.phrases.proofs.Answering.{back, known, written}
use Rattle.phrases.proofs.LoopLaws.{step_last, ends_none, ends_one, ends_two, for_name, for_in, start_none, start_other, bounds_none, bounds_all}
use Rattle.phrases.proofs.LoopLaws.{body_none, for_all}
use Rattle.phrases.proofs.Listing.{back_all, known_all}
use Rattle.language.specs.Grammar.{ranges}
use Rattle.phrases.proofs.RowKinds.{stands_for, range_within, range_row}
use Rattle.phrases.proofs.+phrases.Goals as goal

pub ends-tier-step-requires : goal.loops::ends-tier-step-requires
ends-tier-step-requires t c =
    let p = c.requires.room in
    let seen = sym c.part.ensures ∙ c.in-Ok.is in
    let o = (known c.tier-read.ensures seen).ahead in
    let i = within _ _ _ _ (sym c.kind.ensures ∙ c.if-kind-ne-BY.false) (omega arith) in
    later_with p 3 4 c.decreases c.tier-read.auto.table (omega arith) (omega arith) (omega arith) (omega arith)
    (omega arith, omega arith, λ e. omega arith)

pub ends-returns : goal.loops::ends-returns
ends-returns t c =
    let seen = sym c.part.ensures ∙ c.in-Ok.is in
    ends_two (known c.tier-read.ensures seen) _ (sym c.kind.ensures ∙ c.if-kind-ne-BY.false)
    (step_last _ c.tier-step.ensures c.over-last.ensures) c.pair.ensures

pub ends-returns-then-kind-ne-BY : goal.loops::ends-returns-then-kind-ne-BY
ends-returns-then-kind-ne-BY t c =
    let seen = sym c.part.ensures ∙ c.in-Ok.is in
    ends_one (known c.tier-read.ensures seen) (λ e. c.if-kind-ne-BY.true (c.kind.ensures ∙ e))
    (written _ _ seen c.over.ensures)

pub ends-returns-in_default : goal.loops::ends-returns-in_default
ends-returns-in_default t c =
    let seen = sym c.part.ensures ∙ c.in_default.is in
    back_all (ends_none (known c.tier-read.ensures seen)) seen

pub for_in-returns-then-kind-ne-NAME : goal.loops::for_in-returns-then-kind-ne-NAME
for_in-returns-then-kind-ne-NAME t c =
    back (for_name c.requires.at_value (λ e. c.if-kind-ne-NAME.true (c.kind.ensures ∙ e))) c.failed.ensures

pub for_in-returns-then-kind-ne-IN : goal.loops::for_in-returns-then-kind-ne-IN
for_in-returns-then-kind-ne-IN t c =
    back (for_in c.requires.at_value (sym c.kind.ensures ∙ c.if-kind-ne-NAME.false) (λ e. c.if-kind-ne-IN.true (c.kind-2.ensures ∙ e)))
    c.failed-then-kind-ne-IN.ensures

pub for_in-tier-read-requires : goal.loops::for_in-tier-read-requires
for_in-tier-read-requires t c =
    let p = c.requires.room in
    let i = within _ _ _ _ (sym c.kind-2.ensures ∙ c.if-kind-ne-IN.false) (omega arith) in
    later_with p 3 4 c.decreases refl (omega arith) (omega arith) (omega arith) (omega arith) (omega arith, omega arith, λ e. omega arith)

pub for_in-returns-then-not-is_range : goal.loops::for_in-returns-then-not-is_range
for_in-returns-then-not-is_range t c =
    let seen = sym c.part.ensures ∙ c.in-Ok.is in
    back (start_other c.requires.at_value (sym c.kind.ensures ∙ c.if-kind-ne-NAME.false) (sym c.kind-2.ensures ∙ c.if-kind-ne-IN.false)
    (known c.tier-read.ensures seen) c.kind-mark.ensures (sym c.is_range.ensures ∙ c.if-not-is_range.true))
    c.failed-then-not-is_range.ensures

pub for_in-ends-rest-requires : goal.loops::for_in-ends-rest-requires
for_in-ends-rest-requires t c =
    let p = c.requires.room in
    let o = (known c.tier-read.ensures (sym c.part.ensures ∙ c.in-Ok.is)).ahead in
    let i = range_within _ _ _ _ c.kind-mark.ensures (sym c.is_range.ensures ∙ c.if-not-is_range.false) in
    let h = within _ _ _ _ c.requires.at_value (omega arith) in
    later_with p 3 3 c.decreases c.tier-read.auto.table (omega arith) (omega arith) (omega arith) (omega arith) (i, h)

pub for_in-returns-then-kind-ne-LBRACE : goal.loops::for_in-returns-then-kind-ne-LBRACE
for_in-returns-then-kind-ne-LBRACE t c =
    let a = known c.tier-read.ensures (sym c.part.ensures ∙ c.in-Ok.is) in
    let r = stands_for ranges _ (sym c.is_range.ensures ∙ c.if-not-is_range.false) in
    let b = bounds_all _ a c.kind-mark.ensures r.1 c.ends-rest.ensures c.pair-read_list.ensures in
    let seen = sym c.part-2.ensures ∙ c.in-Ok-part.is in
    back (body_none c.requires.at_value (sym c.kind.ensures ∙ c.if-kind-ne-NAME.false) (sym c.kind-2.ensures ∙ c.if-kind-ne-IN.false)
    (known_all b seen) (λ e. c.if-kind-ne-LBRACE.true (c.kind-3.ensures ∙ e))) c.failed-then-kind-ne-LBRACE.ensures

pub for_in-until-body-requires : goal.loops::for_in-until-body-requires
for_in-until-body-requires t c =
    let p = c.requires.room in
    let a = known c.tier-read.ensures (sym c.part.ensures ∙ c.in-Ok.is) in
    let r = stands_for ranges _ (sym c.is_range.ensures ∙ c.if-not-is_range.false) in
    let b = bounds_all _ a c.kind-mark.ensures r.1 c.ends-rest.ensures c.pair-read_list.ensures in
    let o = (known_all b (sym c.part-2.ensures ∙ c.in-Ok-part.is)).ahead in
    let i = within _ _ _ _ (sym c.kind-3.ensures ∙ c.if-kind-ne-LBRACE.false) (omega arith) in
    later_with p 3 9 c.decreases (c.pair-read_list.auto.table ∙ c.ends-rest.auto.table ∙ c.tier-read.auto.table) (omega arith) (omega arith)
    (omega arith) (omega arith) (omega arith)

pub for_in-around-block-requires : goal.loops::for_in-around-block-requires
for_in-around-block-requires t c =
    let p = c.requires.room in
    let a = known c.tier-read.ensures (sym c.part.ensures ∙ c.in-Ok.is) in
    let r = stands_for ranges _ (sym c.is_range.ensures ∙ c.if-not-is_range.false) in
    let b = bounds_all _ a c.kind-mark.ensures r.1 c.ends-rest.ensures c.pair-read_list.ensures in
    let o = (known_all b (sym c.part-2.ensures ∙ c.in-Ok-part.is)).ahead in
    let i = within _ _ _ _ (sym c.kind-3.ensures ∙ c.if-kind-ne-LBRACE.false) (omega arith) in
    top_fits p _ c.until-body.ensures (omega arith) (omega arith) (c.until-body.auto.table ∙ c.pair-read_list.auto.table ∙ c.ends-rest.auto.table
    ∙ c.tier-read.auto.table) i

pub for_in-returns : goal.loops::for_in-returns
for_in-returns t c =
    let a = known c.tier-read.ensures (sym c.part.ensures ∙ c.in-Ok.is) in
    let r = stands_for ranges _ (sym c.is_range.ensures ∙ c.if-not-is_range.false) in
    let b = bounds_all _ a c.kind-mark.ensures r.1 c.ends-rest.ensures c.pair-read_list.ensures in
    let seen = sym c.part-2.ensures ∙ c.in-Ok-part.is in
    for_all c.requires.at_value (sym c.kind.ensures ∙ c.if-kind-ne-NAME.false) (sym c.kind-2.ensures ∙ c.if-kind-ne-IN.false) (known_all b seen) _
    (range_row _ r.1) (sym c.kind-3.ensures ∙ c.if-kind-ne-LBRACE.false) (body c.until-body.ensures c.around-block.ensures)
    c.pair.ensures

pub for_in-returns-in_default-part : goal.loops::for_in-returns-in_default-part
for_in-returns-in_default-part t c =
    let a = known c.tier-read.ensures (sym c.part.ensures ∙ c.in-Ok.is) in
    let r = stands_for ranges _ (sym c.is_range.ensures ∙ c.if-not-is_range.false) in
    let b = bounds_all _ a c.kind-mark.ensures r.1 c.ends-rest.ensures c.pair-read_list.ensures in
    let seen = sym c.part-2.ensures ∙ c.in_default-part.is in
    back (bounds_none c.requires.at_value (sym c.kind.ensures ∙ c.if-kind-ne-NAME.false) (sym c.kind-2.ensures ∙ c.if-kind-ne-IN.false)
    (known_all b seen)) seen

pub for_in-returns-in_default : goal.loops::for_in-returns-in_default
for_in-returns-in_default t c =
    start_none c.requires.at_value (sym c.kind.ensures ∙ c.if-kind-ne-NAME.false) (sym c.kind-2.ensures ∙ c.if-kind-ne-IN.false)
    c.tier-read.ensures (sym c.part.ensures ∙ c.in_default.is)
