use borrow.Author.Tests.{ltb-true, ltb-false}
use Rattle.rules.proofs.TellLaws.{handed_on, handed_as}
use Rattle.checker.proofs.BodyLaws.{deep_fits, fault_fits, tested_fits}
use Rattle.checker.proofs.programs.body.Goals as goal

pub returns-in_err-need : goal.returns-in_err-need
returns-in_err-need c =
    rw (handed_as c.from_residual.ensures.1 c.in_err-need.ensures.1)
    (deep_fits c.requires c.word-at.ensures c.word-result.ensures (ltb-false _ _ c.in_err-need.ensures.0))

pub returns-in_err-found : goal.returns-in_err-found
returns-in_err-found c =
    rw (handed_on c.from_residual-in_err-found.ensures.1)
    (fault_fits c.requires c.word-at.ensures c.word-result.ensures (ltb-true _ _ c.in_ok-need.ensures) c.link-root.ensures
    c.link-count.ensures c.type_at.ensures c.in_err-found.was)

pub returns : goal.returns
returns c =
    tested_fits c.requires c.word-at.ensures c.word-result.ensures (ltb-true _ _ c.in_ok-need.ensures) c.link-root.ensures
    c.link-count.ensures c.type_at.ensures c.in_ok-found.was _ c.need-2.ensures
