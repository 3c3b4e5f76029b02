-- Parameters between parentheses.
use mathlib.Core.Path.{sym, ◌∙◌}
use native.Mathlib.Omega.{arith}
use Rattle.std.proofs.lemmas.Result.{err_from_is_err_and}
use Rattle.phrases.proofs.Standing.{within}
use Rattle.reader.proofs.DefinitionLaws.{formals_none, formals_failed, formals_other, formals_some}
use Rattle.reader.proofs.definitions.formals.Goals as goal

pub returns-then-kind-eq-RPAR : goal.returns-then-kind-eq-RPAR
returns-then-kind-eq-RPAR c =
    let i = within _ _ _ _ (sym c.kind.ensures ∙ c.if-kind-eq-RPAR.true) (omega arith) in
    formals_none (sym c.kind.ensures ∙ c.if-kind-eq-RPAR.true) i

pub returns-in_err-list : goal.returns-in_err-list
returns-in_err-list c =
    let p = err_from_is_err_and c.from_residual.result c.from_residual.ensures.1 in
    rw (p.1, p.2) (formals_failed (λ e. c.if-kind-eq-RPAR.false (c.kind.ensures ∙ e)) c.in_err-list.ensures)

pub returns-then-kind-ne-RPAR : goal.returns-then-kind-ne-RPAR
returns-then-kind-ne-RPAR c =
    formals_other (λ e. c.if-kind-eq-RPAR.false (c.kind.ensures ∙ e)) c.in_ok-list.ensures
    (λ e. c.if-kind-ne-RPAR.true (c.kind-2.ensures ∙ e))

pub returns : goal.returns
returns c =
    let i = within _ _ _ _ (sym c.kind-2.ensures ∙ c.if-kind-ne-RPAR.false) (omega arith) in
    formals_some (λ e. c.if-kind-eq-RPAR.false (c.kind.ensures ∙ e)) c.in_ok-list.ensures
    (sym c.kind-2.ensures ∙ c.if-kind-ne-RPAR.false) i
