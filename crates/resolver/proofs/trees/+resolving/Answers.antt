-- What the search leaves of the functions that call one another: each answer is named after its function, t is the measure.
use mathlib.Core.Path.{◌∙◌, refl, sym, ap}
use Rattle.resolver.proofs.Lists.{none_done, list_inside, list_room, part_ready, next_ready, more_done}
use native.Mathlib.Omega.{arith}
use Rattle.resolver.proofs.Nodes.{inside}
use Rattle.resolver.proofs.Calls.{call_ready, call_args, call_done, name_ready, name_done}
use Rattle.resolver.proofs.Passes.{bounds_ready, enter_ready, body_ready, for_done}
use mathlib.Core.Bool.{false≢true}
use Rattle.layout.specs.Decode.{counts}
use Rattle.rules.proofs.ShapeLaws.{children_as}
use Rattle.resolver.proofs.Parts.{first_ready, second_ready, third_ready, between_ready, at_most, leaf_done, one_done, two_done, three_done}
use Rattle.resolver.proofs.trees.+resolving.Goals as goal

pub arguments-returns-then-row-eq0 : goal.arguments-returns-then-row-eq0
arguments-returns-then-row-eq0 t c = none_done c.if-row-eq0.true

pub arguments-link-part-requires : goal.arguments-link-part-requires
arguments-link-part-requires t c =
    (c.requires.job.scene.long, list_inside c.requires c.if-row-eq0.false, omega arith)

pub arguments-link-next-requires : goal.arguments-link-next-requires
arguments-link-next-requires t c =
    (c.requires.job.scene.long, list_inside c.requires c.if-row-eq0.false, omega arith)

pub arguments-place-requires : goal.arguments-place-requires
arguments-place-requires t c =
    let q = part_ready c.requires c.if-row-eq0.false c.link-part.ensures in
    (omega (arith, q.0, c.decreases), q.1)

pub arguments-put_name-requires : goal.arguments-put_name-requires
arguments-put_name-requires t c =
    (omega (arith, c.requires.job.scene.long), list_room c.requires c.if-row-eq0.false)

pub arguments-overflow_add-size : goal.arguments-overflow_add-size
arguments-overflow_add-size t c =
    let h = list_room c.requires c.if-row-eq0.false in
    omega arith

pub arguments-arguments-requires : goal.arguments-arguments-requires
arguments-arguments-requires t c =
    let q = next_ready c.if-row-eq0.false c.link-part.ensures c.place.ensures c.put_name.ensures
    c.requires c.link-next.ensures in
    (omega (arith, q.0, c.decreases), q.1)

pub arguments-returns : goal.arguments-returns
arguments-returns t c =
    more_done c.if-row-eq0.false c.link-part.ensures c.place.ensures c.put_name.ensures c.link-next.ensures
    c.arguments.ensures

pub call-link-own-requires : goal.call-link-own-requires
call-link-own-requires t c = (c.requires.0.job.scene.long, inside c.requires.0, omega arith)

pub call-link-row-requires : goal.call-link-row-requires
call-link-row-requires t c = (c.requires.0.job.scene.long, inside c.requires.0, omega arith)

pub call-value-number-requires : goal.call-value-number-requires
call-value-number-requires t c =
    (c.requires.0.job.scene.long, omega (arith, c.link-own.ensures, call_ready c.requires.0 c.requires.1))

pub call-put-requires : goal.call-put-requires
call-put-requires t c =
    (c.requires.0.job.scene.long, omega (arith, c.link-own.ensures, call_ready c.requires.0 c.requires.1))

pub call-arguments-requires : goal.call-arguments-requires
call-arguments-requires t c =
    let q = call_args _ c.requires.1 c.link-own.ensures c.link-row.ensures c.put.ensures c.requires.0 in
    (omega (arith, q.0, c.decreases), q.1)

pub call-returns : goal.call-returns
call-returns t c =
    call_done _ c.requires.1 c.link-own.ensures c.link-row.ensures c.put.ensures c.value-number.ensures
    c.callee-head.ensures c.arguments.ensures

pub counted-link-row-requires : goal.counted-link-row-requires
counted-link-row-requires t c = (c.requires.0.job.scene.long, inside c.requires.0, omega arith)

pub counted-link-body-requires : goal.counted-link-body-requires
counted-link-body-requires t c = (c.requires.0.job.scene.long, inside c.requires.0, omega arith)

pub counted-arguments-requires : goal.counted-arguments-requires
counted-arguments-requires t c =
    let q = bounds_ready c.requires.1 c.link-row.ensures c.requires.0 in
    (omega (arith, q.0, c.decreases), q.1)

pub counted-enter-requires : goal.counted-enter-requires
counted-enter-requires t c =
    let h = enter_ready c.requires.1 c.link-row.ensures c.arguments.ensures c.requires.0 in
    (h.0, inside c.requires.0, h.1, h.2)

pub counted-overflow_add-size : goal.counted-overflow_add-size
counted-overflow_add-size t c =
    let h = enter_ready c.requires.1 c.link-row.ensures c.arguments.ensures c.requires.0 in
    omega (arith, h.1)

pub counted-place-requires : goal.counted-place-requires
counted-place-requires t c =
    let q = body_ready c.requires.1 c.link-row.ensures c.arguments.ensures c.link-body.ensures
    c.enter.ensures c.requires.0 in
    (omega (arith, q.0, c.decreases), q.1)

pub counted-returns : goal.counted-returns
counted-returns t c =
    for_done c.requires.1 c.link-row.ensures c.arguments.ensures c.link-body.ensures c.enter.ensures
    c.place.ensures

pub place-word-kind-requires : goal.place-word-kind-requires
place-word-kind-requires t c = (c.requires.job.scene.long, inside c.requires, omega arith)

pub place-name-requires : goal.place-name-requires
place-name-requires t c =
    let h = name_ready c.requires (sym c.word-kind.ensures ∙ c.in-1.is) in
    (c.requires.job.scene.long, inside c.requires, h.0, h.1)

pub place-returns-in-1 : goal.place-returns-in-1
place-returns-in-1 t c =
    name_done (sym c.word-kind.ensures ∙ c.in-1.is) c.name.ensures

pub place-returns-then-count-eq0 : goal.place-returns-then-count-eq0
place-returns-then-count-eq0 t c =
    leaf_done (children_as c.word-kind.ensures refl c.children-count.ensures) c.if-count-eq0.true
    (λ e. omega (arith, c.word-kind.ensures)) (λ e. omega (arith, c.word-kind.ensures))
    (λ e. false≢true (sym c.if-counts.false ∙ c.counts.ensures ∙ ap counts c.word-kind.ensures ∙ e))

pub place-link-first-requires : goal.place-link-first-requires
place-link-first-requires t c = (c.requires.job.scene.long, inside c.requires, omega arith)

pub place-link-second-requires : goal.place-link-second-requires
place-link-second-requires t c = (c.requires.job.scene.long, inside c.requires, omega arith)

pub place-link-third-requires : goal.place-link-third-requires
place-link-third-requires t c = (c.requires.job.scene.long, inside c.requires, omega arith)

pub place-place-requires : goal.place-place-requires
place-place-requires t c =
    let many = (children_as c.word-kind.ensures refl c.children-count.ensures) in
    let q = first_ready many c.requires (omega (arith, c.if-count-eq0.false)) c.link-first.ensures in
    (omega (arith, q.0, c.decreases), q.1)

pub place-returns-then-count-eq1 : goal.place-returns-then-count-eq1
place-returns-then-count-eq1 t c =
    let many = (children_as c.word-kind.ensures refl c.children-count.ensures) in
    one_done many c.link-first.ensures c.place.ensures c.if-count-eq1.true

pub place-between-inner-requires : goal.place-between-inner-requires
place-between-inner-requires t c =
    let many = (children_as c.word-kind.ensures refl c.children-count.ensures) in
    let h = between_ready many c.link-first.ensures c.place.ensures c.requires
    (omega (arith, c.if-count-eq0.false, c.if-count-eq1.false)) in
    (h.0, inside c.requires, h.1, h.2)

pub place-place-requires-2 : goal.place-place-requires-2
place-place-requires-2 t c =
    let many = (children_as c.word-kind.ensures refl c.children-count.ensures) in
    let q = second_ready many c.link-first.ensures c.place.ensures c.word-kind.ensures c.between-inner.ensures c.requires
    (omega (arith, c.if-count-eq0.false, c.if-count-eq1.false)) c.link-second.ensures in
    (omega (arith, q.0, c.decreases), q.1)

pub place-returns-then-count-eq2 : goal.place-returns-then-count-eq2
place-returns-then-count-eq2 t c =
    let many = (children_as c.word-kind.ensures refl c.children-count.ensures) in
    two_done many c.link-first.ensures c.place.ensures c.word-kind.ensures c.between-inner.ensures
    c.link-second.ensures c.place-2.ensures c.if-count-eq2.true

pub place-place-requires-3 : goal.place-place-requires-3
place-place-requires-3 t c =
    let many = (children_as c.word-kind.ensures refl c.children-count.ensures) in
    let q = third_ready many c.link-first.ensures c.place.ensures c.word-kind.ensures c.between-inner.ensures
    c.link-second.ensures c.place-2.ensures c.requires
    (omega (arith, c.if-count-eq0.false, c.if-count-eq1.false, c.if-count-eq2.false)) c.link-third.ensures in
    (omega (arith, q.0, c.decreases), q.1)

pub place-returns : goal.place-returns
place-returns t c =
    let many = (children_as c.word-kind.ensures refl c.children-count.ensures) in
    three_done many c.link-first.ensures c.place.ensures c.word-kind.ensures c.between-inner.ensures
    c.link-second.ensures c.place-2.ensures c.link-third.ensures c.place-3.ensures
    (omega (arith, c.if-count-eq0.false, c.if-count-eq1.false, c.if-count-eq2.false, at_most many c.requires))
