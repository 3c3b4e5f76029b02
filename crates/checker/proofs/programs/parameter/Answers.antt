use mathlib.Core.Path.{ap, ◌∙◌}
use Rattle.std.specs.Prelude.{not}
use borrow.Author.Tests.{ltb-true, ltb-false}
use Rattle.rules.proofs.TellLaws.{handed_as}
use Rattle.checker.proofs.ParameterLaws.{ninth_bound, twice_bound, deep_bound, fine_bound}
use Rattle.checker.proofs.programs.parameter.Goals as goal

pub returns-in_err-need : goal.returns-in_err-need
returns-in_err-need c =
    rw (handed_as c.from_residual.ensures.1 c.in_err-need.ensures.1)
    (ninth_bound c.requires c.word-at.ensures (ltb-false _ _ c.in_err-need.ensures.0))

pub returns-in_err-need-2 : goal.returns-in_err-need-2
returns-in_err-need-2 c =
    rw (handed_as c.from_residual-in_err-need-2.ensures.1 c.in_err-need-2.ensures.1)
    (twice_bound c.requires c.word-at.ensures (ltb-true _ _ c.in_ok-need.ensures) c.link-token.ensures c.value-name.ensures _
    c.variable-before.ensures (c.is_none.ensures ∙ ap not c.in_err-need-2.ensures.0))

pub returns-in_err-need-3 : goal.returns-in_err-need-3
returns-in_err-need-3 c =
    rw (handed_as c.from_residual-in_err-need-3.ensures.1 c.in_err-need-3.ensures.1)
    (deep_bound c.requires c.word-at.ensures (ltb-true _ _ c.in_ok-need.ensures) c.link-token.ensures c.value-name.ensures _
    c.variable-before.ensures (c.is_none.ensures ∙ ap not c.in_ok-need-2.ensures) c.word-number.ensures (ltb-false _ _ c.in_err-need-3.ensures.0))

pub returns : goal.returns
returns c =
    fine_bound c.requires c.word-at.ensures (ltb-true _ _ c.in_ok-need.ensures) c.link-token.ensures c.value-name.ensures _
    c.variable-before.ensures (c.is_none.ensures ∙ ap not c.in_ok-need-2.ensures) c.word-number.ensures (ltb-true _ _ c.in_ok-need-3.ensures)
    c.put.ensures
