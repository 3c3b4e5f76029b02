-- The type of a function's result, between `:` and `{`.
use mathlib.Core.Path.{sym, ◌∙◌}
use native.Mathlib.Omega.{arith}
use Rattle.std.proofs.lemmas.Result.{err_from_is_err_and}
use Rattle.phrases.proofs.Standing.{within}
use Rattle.reader.proofs.TypeLaws.{result_colon, result_none, result_other, result_all}
use Rattle.reader.proofs.types.result.Goals as goal

pub returns-then-kind-ne-COLON : goal.returns-then-kind-ne-COLON
returns-then-kind-ne-COLON c =
    result_colon (λ e. c.if-kind-ne-COLON.true (c.kind.ensures ∙ e))

pub type_at-requires : goal.type_at-requires
type_at-requires c =
    let p = c.requires in
    let i = within _ _ _ _ (sym c.kind.ensures ∙ c.if-kind-ne-COLON.false) (omega arith) in
    (p.0, p.1, omega arith)

pub returns-in_err-named : goal.returns-in_err-named
returns-in_err-named c =
    let p = err_from_is_err_and c.from_residual.result c.from_residual.ensures.1 in
    rw (p.1, p.2) (result_none (sym c.kind.ensures ∙ c.if-kind-ne-COLON.false) c.in_err-named.ensures)

pub returns-then-kind-ne-LBRACE : goal.returns-then-kind-ne-LBRACE
returns-then-kind-ne-LBRACE c =
    result_other (sym c.kind.ensures ∙ c.if-kind-ne-COLON.false) c.in_ok-named.ensures
    (λ e. c.if-kind-ne-LBRACE.true (c.kind-2.ensures ∙ e))

pub returns : goal.returns
returns c =
    result_all (sym c.kind.ensures ∙ c.if-kind-ne-COLON.false) c.in_ok-named.ensures
    (sym c.kind-2.ensures ∙ c.if-kind-ne-LBRACE.false)
