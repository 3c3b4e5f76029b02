-- What the borrow checker leaves of `params`.
use mathlib.Core.Path.{sym, ◌∙◌}
use native.Mathlib.Omega.{arith}
use Rattle.std.proofs.lemmas.Result.{err_from_is_err_and}
use Rattle.phrases.proofs.Standing.{within}
use Rattle.std.specs.Prelude.{Ok}
use Rattle.reader.specs.Definitions.{TypeAnswer}
use Rattle.reader.proofs.DefinitionLaws.{params_name, params_colon, params_none, params_one, params_more}
use Rattle.reader.proofs.definitions.+params.Goals as goal

pub returns-then-kind-ne-NAME : goal.returns-then-kind-ne-NAME
returns-then-kind-ne-NAME t c =
    params_name (λ e. c.if-kind-ne-NAME.true (c.kind.ensures ∙ e))

pub returns-then-kind-ne-COLON : goal.returns-then-kind-ne-COLON
returns-then-kind-ne-COLON t c =
    params_colon (sym c.kind.ensures ∙ c.if-kind-ne-NAME.false) (λ e. c.if-kind-ne-COLON.true (c.kind-2.ensures ∙ e))

pub type_at-requires : goal.type_at-requires
type_at-requires t c =
    let p = c.requires in
    let i = within _ _ _ _ (sym c.kind-2.ensures ∙ c.if-kind-ne-COLON.false) (omega arith) in
    (p.wide, p.few, omega arith)

pub returns-in_err-named : goal.returns-in_err-named
returns-in_err-named t c =
    let p = err_from_is_err_and c.from_residual.result c.from_residual.ensures.1 in
    rw (p.1, p.2) (params_none (sym c.kind.ensures ∙ c.if-kind-ne-NAME.false) (sym c.kind-2.ensures ∙ c.if-kind-ne-COLON.false)
    c.in_err-named.ensures)

pub params-requires : goal.params-requires
params-requires t c =
    let p = c.requires in
    let e = c.decreases in
    let a : TypeAnswer _ _ _ _ _ (Ok c.in_ok-named.named) = c.in_ok-named.ensures in
    let o = a.ahead in
    let j = within _ _ _ _ (sym c.kind-3.ensures ∙ c.if-kind-eq-COMMA.true) (omega arith) in
    let l = c.put.auto.table in
    (omega arith, record { wide = omega arith; few = p.few; inside = omega arith; owned = omega arith })

pub returns-then-kind-eq-COMMA : goal.returns-then-kind-eq-COMMA
returns-then-kind-eq-COMMA t c =
    let p = c.requires in
    let i = within _ _ _ _ (sym c.kind.ensures ∙ c.if-kind-ne-NAME.false) (omega arith) in
    params_more (sym c.kind.ensures ∙ c.if-kind-ne-NAME.false) (sym c.kind-2.ensures ∙ c.if-kind-ne-COLON.false)
    c.in_ok-named.ensures (omega arith) c.put.ensures _ (sym c.kind-3.ensures ∙ c.if-kind-eq-COMMA.true) c.params.ensures

pub returns : goal.returns
returns t c =
    let p = c.requires in
    let i = within _ _ _ _ (sym c.kind.ensures ∙ c.if-kind-ne-NAME.false) (omega arith) in
    params_one (sym c.kind.ensures ∙ c.if-kind-ne-NAME.false) (sym c.kind-2.ensures ∙ c.if-kind-ne-COLON.false)
    c.in_ok-named.ensures (omega arith) c.put.ensures (λ e. c.if-kind-eq-COMMA.false (c.kind-3.ensures ∙ e))
