-- A function: what stands before its body, its body, and its row.
use mathlib.Core.Path.{refl, sym, ◌∙◌}
use native.Mathlib.Omega.{arith}
use Rattle.std.proofs.lemmas.Result.{err_from_is_err_and}
use Rattle.phrases.proofs.Standing.{within}
use Rattle.phrases.proofs.ItemLaws.{body}
use Rattle.phrases.proofs.Answering.{known}
use Rattle.reader.proofs.DefinitionLaws.{function_name, function_open, function_formals, function_result, function_body, function_all}
use Rattle.reader.proofs.definitions.function.Goals as goal

pub returns-then-kind-ne-NAME : goal.returns-then-kind-ne-NAME
returns-then-kind-ne-NAME c =
    function_name c.requires.at_value (λ e. c.if-kind-ne-NAME.true (c.kind.ensures ∙ e))

pub returns-then-kind-ne-LPAR : goal.returns-then-kind-ne-LPAR
returns-then-kind-ne-LPAR c =
    function_open c.requires.at_value
    (sym c.kind.ensures ∙ c.if-kind-ne-NAME.false)
    (λ e. c.if-kind-ne-LPAR.true (c.kind-2.ensures ∙ e))

pub formals-requires : goal.formals-requires
formals-requires c =
    let p = c.requires.room in
    let i = within _ _ _ _ (sym c.kind-2.ensures ∙ c.if-kind-ne-LPAR.false) (omega arith) in
    record { wide = p.wide; few = p.few; inside = omega arith; owned = omega arith }

pub returns-in_err-list : goal.returns-in_err-list
returns-in_err-list c =
    let p = err_from_is_err_and c.from_residual.result c.from_residual.ensures.1 in
    rw (p.1, p.2) (function_formals c.requires.at_value (sym c.kind.ensures ∙ c.if-kind-ne-NAME.false)
    (sym c.kind-2.ensures ∙ c.if-kind-ne-LPAR.false) c.in_err-list.ensures)

pub returns-in_err-named : goal.returns-in_err-named
returns-in_err-named c =
    let p = err_from_is_err_and c.from_residual-in_err-named.result c.from_residual-in_err-named.ensures.1 in
    rw (p.1, p.2) (function_result c.requires.at_value (sym c.kind.ensures ∙ c.if-kind-ne-NAME.false)
    (sym c.kind-2.ensures ∙ c.if-kind-ne-LPAR.false) c.in_ok-list.ensures c.in_err-named.ensures)

pub returns-in_err-body : goal.returns-in_err-body
returns-in_err-body c =
    let p = err_from_is_err_and c.from_residual-in_err-body.result c.from_residual-in_err-body.ensures.1 in
    let d = known (body c.until-inside.ensures c.around.ensures) (sym c.part.ensures ∙ c.in_err-body.was) in
    rw (p.1, p.2) (function_body c.requires.at_value (sym c.kind.ensures ∙ c.if-kind-ne-NAME.false)
    (sym c.kind-2.ensures ∙ c.if-kind-ne-LPAR.false) c.in_ok-list.ensures c.in_ok-named.ensures d)

pub returns : goal.returns
returns c =
    let p = c.requires.room in
    let i = within _ _ _ _ c.requires.at_value (omega arith) in
    let d = known (body c.until-inside.ensures c.around.ensures) (sym c.part.ensures ∙ c.in_ok-body.was) in
    function_all c.requires.at_value (sym c.kind.ensures ∙ c.if-kind-ne-NAME.false) (sym c.kind-2.ensures ∙ c.if-kind-ne-LPAR.false)
    c.in_ok-list.ensures c.in_ok-named.ensures d (omega arith) refl c.put.ensures
