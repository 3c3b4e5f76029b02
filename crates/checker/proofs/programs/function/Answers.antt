use Rattle.rules.proofs.TellLaws.{handed_on}
use Rattle.checker.proofs.BodyLaws.{listed_heads, listed_params, listed_body, head_ruled, params_ruled, body_ruled}
use Rattle.checker.proofs.programs.function.Goals as goal

pub fresh-requires : goal.fresh-requires
fresh-requires c = listed_heads c.requires c.row-row.ensures

pub parameters-requires : goal.parameters-requires
parameters-requires c = listed_params c.requires c.row-row.ensures

pub body-requires : goal.body-requires
body-requires c =
    listed_body c.requires c.row-row.ensures c.fresh.ensures c.in_ok-fresh.was
    c.parameters.ensures c.in_ok-parameters.was

pub returns-in_err-fresh : goal.returns-in_err-fresh
returns-in_err-fresh c =
    rw (handed_on c.from_residual.ensures.1) (head_ruled c.requires c.row-row.ensures c.fresh.ensures c.in_err-fresh.was)

pub returns-in_err-parameters : goal.returns-in_err-parameters
returns-in_err-parameters c =
    rw (handed_on c.from_residual-in_err-parameters.ensures.1)
    (params_ruled c.requires c.row-row.ensures c.fresh.ensures c.in_ok-fresh.was
    c.parameters.ensures c.in_err-parameters.was)

pub returns : goal.returns
returns c =
    body_ruled c.requires c.row-row.ensures c.fresh.ensures c.in_ok-fresh.was c.parameters.ensures
    c.in_ok-parameters.was c.body.ensures
