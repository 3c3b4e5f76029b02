use borrow.Author.Tests.{ltb-true, ltb-false}
use Rattle.rules.proofs.TellLaws.{handed_as}
use Rattle.checker.proofs.FunctionLaws.{many_fresh, other_fresh, nobody_fresh}
use Rattle.checker.proofs.programs.fresh.Goals as goal

pub returns-in_err-need : goal.returns-in_err-need
returns-in_err-need c =
    rw (handed_as c.from_residual.ensures.1 c.in_err-need.ensures.1)
    (many_fresh c.requires c.word-at.ensures (ltb-false _ _ c.in_err-need.ensures.0))

pub returns-in_default : goal.returns-in_default
returns-in_default c =
    other_fresh c.requires c.word-at.ensures (ltb-true _ _ c.in_ok-need.ensures) c.name-name.ensures c.called.ensures
    c.in_default.not-Nobody

pub returns-in-Nobody : goal.returns-in-Nobody
returns-in-Nobody c =
    nobody_fresh c.requires c.word-at.ensures (ltb-true _ _ c.in_ok-need.ensures) c.name-name.ensures c.called.ensures
    c.in-Nobody.is
