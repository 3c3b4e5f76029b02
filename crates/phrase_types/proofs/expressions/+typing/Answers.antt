-- What the search leaves of the functions that call one another: each answer is named after its function, t is the measure.
use mathlib.Core.Path.{◌∙◌, refl, sym}
use Rattle.rules.proofs.TellLaws.{handed_on}
use Rattle.phrase_types.proofs.ReadyArguments.{args_readable, args_first, args_next}
use Rattle.phrase_types.proofs.InferredLaws.{end_inferred, stop_inferred, more_inferred, first_inferred, first_told}
use Rattle.phrase_types.proofs.InferredLaws.{let_inferred, then_inferred, else_inferred, if_inferred, arguments_inferred, inferred_as, inferred_all_on}
use Rattle.phrase_types.proofs.InferredLaws.{callee_ready, call_inferred, one_inferred, second_inferred, two_inferred}
use Rattle.phrase_types.proofs.InferredLaws.{name_inferred, constant_inferred}
use Rattle.phrase_types.proofs.CoveredLaws.{falls_along, falls_inside}
use native.Mathlib.Omega.{arith}
use Rattle.phrase_types.proofs.KeptLaws.{kept_self, kept_then}
use Rattle.phrase_types.proofs.BindLaws.{let_children}
use Rattle.phrase_types.proofs.ReadyLaws.{bound_number, ready_inside, ready_binds, ready_bound, ready_first, ready_body}
use Rattle.phrase_types.proofs.ReadyLaws.{ready_second, ready_third, called_number, ready_called, ready_headed, ready_args}
use Rattle.phrase_types.proofs.ReadyLaws.{ready_looped, ready_name}
use Rattle.language.specs.Meaning.{type_number}
use Rattle.phrase_types.proofs.CountedLaws.{ready_bounds, ready_pass, bounds_inferred, pass_inferred, counted_inferred}
use mathlib.Core.Bool.{false≢true}
use Rattle.std.proofs.lemmas.Bool.Decides.{nat_tests}
use Rattle.phrase_types.proofs.expressions.+typing.Goals as goal

pub arguments-returns-then-row-eq0 : goal.arguments-returns-then-row-eq0
arguments-returns-then-row-eq0 t c = end_inferred c.if-row-eq0.true

pub arguments-expected-wanted-requires : goal.arguments-expected-wanted-requires
arguments-expected-wanted-requires t c = (c.requires.long, args_readable c.requires c.if-row-eq0.false)

pub arguments-type_at-requires : goal.arguments-type_at-requires
arguments-type_at-requires t c =
    let q = args_first c.requires c.if-row-eq0.false c.link-child.ensures in (falls_along q.0 c.decreases, q.1)

pub arguments-arguments-requires : goal.arguments-arguments-requires
arguments-arguments-requires t c =
    let q = args_next c.requires c.if-row-eq0.false c.type_at.ensures.kept c.link-next.ensures in
    (falls_along q.0 c.decreases, q.1)

pub arguments-returns-in_err-first : goal.arguments-returns-in_err-first
arguments-returns-in_err-first t c =
    inferred_all_on (sym (handed_on c.from_residual.ensures.1)) (stop_inferred c.requires c.if-row-eq0.false c.link-child.ensures c.type_at.ensures c.in_err-first.was)

pub arguments-returns : goal.arguments-returns
arguments-returns t c =
    more_inferred c.requires c.if-row-eq0.false c.link-child.ensures c.type_at.ensures c.in_ok-first.was
    c.expected-wanted.ensures c.link-next.ensures (grind (arith, nat_tests)) c.arguments.ensures

pub bind-link-token-requires : goal.bind-link-token-requires
bind-link-token-requires t c = (c.requires.0.long, ready_inside c.requires.0, omega arith)

pub bind-value-number-requires : goal.bind-value-number-requires
bind-value-number-requires t c =
    let h = ready_bound c.requires.0 c.requires.1 in (c.requires.0.long, omega (arith, c.link-token.ensures))

pub bind-link-bound-requires : goal.bind-link-bound-requires
bind-link-bound-requires t c = (c.requires.0.long, ready_inside c.requires.0, omega arith)

pub bind-link-body-requires : goal.bind-link-body-requires
bind-link-body-requires t c = (c.requires.0.long, ready_inside c.requires.0, omega arith)

pub bind-type_at-requires : goal.bind-type_at-requires
bind-type_at-requires t c =
    let q = ready_first c.requires.0 (kept_self _ _) (let_children _ c.requires.1) (omega arith) c.link-bound.ensures in
    (falls_inside q.0 c.decreases, q.1)

pub bind-type_at-requires-2 : goal.bind-type_at-requires-2
bind-type_at-requires-2 t c =
    let q = ready_body c.requires.0 c.type_at.ensures.kept c.requires.1
    (bound_number c.requires.0 c.link-token.ensures c.value-number.ensures)
    (first_told c.requires.0 c.link-bound.ensures c.type_at.ensures c.in_ok-first.was)
    c.put.ensures c.link-body.ensures in
    (falls_inside q.0 c.decreases, q.1)

pub bind-returns-in_err-first : goal.bind-returns-in_err-first
bind-returns-in_err-first t c =
    inferred_as (sym (handed_on c.from_residual.ensures.1)) (first_inferred c.requires.0 c.link-bound.ensures c.type_at.ensures (let_children _ c.requires.1) (omega arith)
    c.in_err-first.was)

pub bind-returns : goal.bind-returns
bind-returns t c =
    let_inferred c.requires.0 c.link-bound.ensures c.type_at.ensures c.in_ok-first.was c.requires.1
    (bound_number c.requires.0 c.link-token.ensures c.value-number.ensures) c.put.ensures c.link-body.ensures
    c.type_at-2.ensures

pub branch-word-at-requires : goal.branch-word-at-requires
branch-word-at-requires t c = (c.requires.0.long, ready_inside c.requires.0, omega arith)

pub branch-link-test-requires : goal.branch-link-test-requires
branch-link-test-requires t c = (c.requires.0.long, ready_inside c.requires.0, omega arith)

pub branch-link-chosen-requires : goal.branch-link-chosen-requires
branch-link-chosen-requires t c = (c.requires.0.long, ready_inside c.requires.0, omega arith)

pub branch-link-other-requires : goal.branch-link-other-requires
branch-link-other-requires t c = (c.requires.0.long, ready_inside c.requires.0, omega arith)

pub branch-type_at-requires : goal.branch-type_at-requires
branch-type_at-requires t c =
    let q = ready_first c.requires.0 (kept_self _ _) c.requires.1 (omega arith) c.link-test.ensures in
    (falls_inside q.0 c.decreases, q.1)

pub branch-type_at-requires-2 : goal.branch-type_at-requires-2
branch-type_at-requires-2 t c =
    let q = ready_second c.requires.0 c.type_at.ensures.kept c.requires.1 (omega arith) c.link-chosen.ensures in
    (falls_inside q.0 c.decreases, q.1)

pub branch-type_at-requires-3 : goal.branch-type_at-requires-3
branch-type_at-requires-3 t c =
    let q = ready_third c.requires.0 (kept_then c.type_at.ensures.kept c.type_at-2.ensures.kept) c.requires.1
    (omega arith) c.link-other.ensures in
    (falls_inside q.0 c.decreases, q.1)

pub branch-returns-in_err-condition : goal.branch-returns-in_err-condition
branch-returns-in_err-condition t c =
    inferred_as (sym (handed_on c.from_residual.ensures.1)) (first_inferred c.requires.0 c.link-test.ensures c.type_at.ensures c.requires.1 (omega arith)
    c.in_err-condition.was)

pub branch-returns-in_err-first : goal.branch-returns-in_err-first
branch-returns-in_err-first t c =
    inferred_as (sym (handed_on c.from_residual-in_err-first.ensures.1)) (then_inferred c.requires.0 c.link-test.ensures c.type_at.ensures c.in_ok-condition.was
    c.link-chosen.ensures c.type_at-2.ensures c.requires.1 c.in_err-first.was)

pub branch-returns-in_err-second : goal.branch-returns-in_err-second
branch-returns-in_err-second t c =
    inferred_as (sym (handed_on c.from_residual-in_err-second.ensures.1)) (else_inferred c.requires.0 c.link-test.ensures c.type_at.ensures c.in_ok-condition.was
    c.link-chosen.ensures c.type_at-2.ensures c.requires.1 c.in_ok-first.was c.link-other.ensures
    c.type_at-3.ensures c.in_err-second.was)

pub branch-returns : goal.branch-returns
branch-returns t c =
    if_inferred c.requires.0 c.link-test.ensures c.type_at.ensures c.in_ok-condition.was
    c.link-chosen.ensures c.type_at-2.ensures c.requires.1 c.in_ok-first.was c.link-other.ensures
    c.type_at-3.ensures c.in_ok-second.was c.word-at.ensures c.branches.ensures

pub call-word-at-requires : goal.call-word-at-requires
call-word-at-requires t c = (c.requires.0.long, ready_inside c.requires.0, omega arith)

pub call-link-token-requires : goal.call-link-token-requires
call-link-token-requires t c = (c.requires.0.long, ready_inside c.requires.0, omega arith)

pub call-value-number-requires : goal.call-value-number-requires
call-value-number-requires t c =
    let h = ready_called c.requires.0 c.requires.1 in (c.requires.0.long, omega (arith, c.link-token.ensures))

pub call-called-callee-requires : goal.call-called-callee-requires
call-called-callee-requires t c = (c.requires.0.long, ready_headed c.requires.0)

pub call-link-row-requires : goal.call-link-row-requires
call-link-row-requires t c = (c.requires.0.long, ready_inside c.requires.0, omega arith)

pub call-arguments-requires : goal.call-arguments-requires
call-arguments-requires t c =
    let q = ready_args c.requires.0 c.requires.1 (called_number c.requires.0 c.link-token.ensures c.value-number.ensures)
    c.called-callee.ensures c.link-row.ensures in
    (falls_inside q.0 c.decreases, q.1)

pub call-call-requires : goal.call-call-requires
call-call-requires t c =
    callee_ready c.requires.0 c.requires.1 (called_number c.requires.0 c.link-token.ensures c.value-number.ensures)
    c.called-callee.ensures c.link-row.ensures c.arguments.ensures

pub call-returns-in_err-passed : goal.call-returns-in_err-passed
call-returns-in_err-passed t c =
    inferred_as (sym (handed_on c.from_residual.ensures.1)) (arguments_inferred c.requires.0 c.requires.1 (called_number c.requires.0 c.link-token.ensures c.value-number.ensures)
    c.called-callee.ensures c.link-row.ensures c.arguments.ensures c.in_err-passed.was)

pub call-returns : goal.call-returns
call-returns t c =
    call_inferred c.requires.0 c.requires.1 (called_number c.requires.0 c.link-token.ensures c.value-number.ensures)
    c.called-callee.ensures c.link-row.ensures c.arguments.ensures c.in_ok-passed.was
    c.word-at.ensures c.call.ensures

pub counted-word-at-requires : goal.counted-word-at-requires
counted-word-at-requires t c = (c.requires.0.long, ready_inside c.requires.0, omega arith)

pub counted-link-token-requires : goal.counted-link-token-requires
counted-link-token-requires t c = (c.requires.0.long, ready_inside c.requires.0, omega arith)

pub counted-value-number-requires : goal.counted-value-number-requires
counted-value-number-requires t c =
    let h = ready_looped c.requires.0 c.requires.1 in (c.requires.0.long, omega (arith, c.link-token.ensures))

pub counted-link-start-requires : goal.counted-link-start-requires
counted-link-start-requires t c = (c.requires.0.long, ready_inside c.requires.0, omega arith)

pub counted-link-body-requires : goal.counted-link-body-requires
counted-link-body-requires t c = (c.requires.0.long, ready_inside c.requires.0, omega arith)

pub counted-arguments-requires : goal.counted-arguments-requires
counted-arguments-requires t c =
    let q = ready_bounds c.requires.0 c.requires.1 c.link-start.ensures in
    (falls_inside q.0 c.decreases, q.1)

pub counted-type_at-requires : goal.counted-type_at-requires
unfolding type_number
counted-type_at-requires t c =
    let e = bound_number c.requires.0 c.link-token.ensures c.value-number.ensures in
    let q = ready_pass c.requires.0 c.requires.1 c.link-start.ensures c.arguments.ensures e refl c.put.ensures
    c.link-body.ensures in
    (falls_inside q.0 c.decreases, q.1)

pub counted-returns-in_err-bounds : goal.counted-returns-in_err-bounds
counted-returns-in_err-bounds t c =
    inferred_as (sym (handed_on c.from_residual.ensures.1)) (bounds_inferred c.requires.0 c.requires.1 c.link-start.ensures c.arguments.ensures c.in_err-bounds.was)

pub counted-returns-in_err-pass : goal.counted-returns-in_err-pass
unfolding type_number
counted-returns-in_err-pass t c =
    let e = bound_number c.requires.0 c.link-token.ensures c.value-number.ensures in
    inferred_as (sym (handed_on c.from_residual-in_err-pass.ensures.1)) (pass_inferred c.requires.0 c.requires.1 c.link-start.ensures c.arguments.ensures e refl c.put.ensures
    c.link-body.ensures c.in_ok-bounds.was c.type_at.ensures c.in_err-pass.was)

pub counted-returns : goal.counted-returns
unfolding type_number
counted-returns t c =
    let e = bound_number c.requires.0 c.link-token.ensures c.value-number.ensures in
    counted_inferred c.requires.0 c.requires.1 c.link-start.ensures c.arguments.ensures e refl c.put.ensures
    c.link-body.ensures c.in_ok-bounds.was c.type_at.ensures c.in_ok-pass.was c.word-at.ensures
    c.counted.ensures

pub over_one-word-kind-requires : goal.over_one-word-kind-requires
over_one-word-kind-requires t c = (c.requires.0.long, ready_inside c.requires.0, omega arith)

pub over_one-word-at-requires : goal.over_one-word-at-requires
over_one-word-at-requires t c = (c.requires.0.long, ready_inside c.requires.0, omega arith)

pub over_one-link-child-requires : goal.over_one-link-child-requires
over_one-link-child-requires t c = (c.requires.0.long, ready_inside c.requires.0, omega arith)

pub over_one-type_at-requires : goal.over_one-type_at-requires
over_one-type_at-requires t c =
    let q = ready_first c.requires.0 (kept_self _ _) c.requires.1 (omega arith) c.link-child.ensures in
    (falls_inside q.0 c.decreases, q.1)

pub over_one-returns-in_err-inside : goal.over_one-returns-in_err-inside
over_one-returns-in_err-inside t c =
    inferred_as (sym (handed_on c.from_residual.ensures.1)) (first_inferred c.requires.0 c.link-child.ensures c.type_at.ensures c.requires.1 (omega arith)
    c.in_err-inside.was)

pub over_one-returns : goal.over_one-returns
over_one-returns t c =
    one_inferred c.requires.0 c.link-child.ensures c.type_at.ensures c.in_ok-inside.was c.requires.1
    c.word-kind.ensures c.word-at.ensures c.after_child.ensures

pub over_two-word-kind-requires : goal.over_two-word-kind-requires
over_two-word-kind-requires t c = (c.requires.0.long, ready_inside c.requires.0, omega arith)

pub over_two-word-at-requires : goal.over_two-word-at-requires
over_two-word-at-requires t c = (c.requires.0.long, ready_inside c.requires.0, omega arith)

pub over_two-link-left-requires : goal.over_two-link-left-requires
over_two-link-left-requires t c = (c.requires.0.long, ready_inside c.requires.0, omega arith)

pub over_two-link-right-requires : goal.over_two-link-right-requires
over_two-link-right-requires t c = (c.requires.0.long, ready_inside c.requires.0, omega arith)

pub over_two-type_at-requires : goal.over_two-type_at-requires
over_two-type_at-requires t c =
    let q = ready_first c.requires.0 (kept_self _ _) c.requires.1 (omega arith) c.link-left.ensures in
    (falls_inside q.0 c.decreases, q.1)

pub over_two-type_at-requires-2 : goal.over_two-type_at-requires-2
over_two-type_at-requires-2 t c =
    let q = ready_second c.requires.0 c.type_at.ensures.kept c.requires.1 (omega arith) c.link-right.ensures in
    (falls_inside q.0 c.decreases, q.1)

pub over_two-returns-in_err-first : goal.over_two-returns-in_err-first
over_two-returns-in_err-first t c =
    inferred_as (sym (handed_on c.from_residual.ensures.1)) (first_inferred c.requires.0 c.link-left.ensures c.type_at.ensures c.requires.1 (omega arith)
    c.in_err-first.was)

pub over_two-returns-in_err-second : goal.over_two-returns-in_err-second
over_two-returns-in_err-second t c =
    inferred_as (sym (handed_on c.from_residual-in_err-second.ensures.1)) (second_inferred c.requires.0 c.link-left.ensures c.type_at.ensures c.in_ok-first.was c.link-right.ensures
    c.type_at-2.ensures c.requires.1 c.requires.2 c.in_err-second.was)

pub over_two-returns : goal.over_two-returns
over_two-returns t c =
    two_inferred c.requires.0 c.link-left.ensures c.type_at.ensures c.in_ok-first.was c.link-right.ensures
    c.type_at-2.ensures c.requires.1 c.requires.2 c.in_ok-second.was c.word-kind.ensures
    c.word-at.ensures c.after_children.ensures

pub type_at-word-kind-requires : goal.type_at-word-kind-requires
type_at-word-kind-requires t c = (c.requires.long, ready_inside c.requires, omega arith)

pub type_at-name-requires : goal.type_at-name-requires
type_at-name-requires t c =
    let h = ready_name c.requires (sym c.word-kind.ensures ∙ c.in-1.is) in
    let b = ready_binds c.requires in (c.requires.long, ready_inside c.requires, h, omega arith)

pub type_at-returns-in-1 : goal.type_at-returns-in-1
type_at-returns-in-1 t c =
    name_inferred c.requires (sym c.word-kind.ensures ∙ c.in-1.is) c.name.ensures

pub type_at-returns-in-0 : goal.type_at-returns-in-0
type_at-returns-in-0 t c =
    constant_inferred c.requires c.word-kind.ensures (λ e. omega arith) (λ e. omega arith)
    (λ e. false≢true (sym c.if-counts.false ∙ c.counts.ensures ∙ e)) c.children.ensures
    c.in-0.is c.constant.ensures
