use Rattle.rules.proofs.TellLaws.{handed_on}
use mathlib.Core.Path.{refl}
use Rattle.checker.proofs.TakingLaws.{taking_starts, taking_row, taking_stops, taking_goes, taking_ends}
use Rattle.checker.proofs.programs.parameters.Goals as goal

pub loop-k-init : goal.loop-k-init
loop-k-init c = taking_starts refl

pub parameter-requires : goal.parameter-requires
parameter-requires c = taking_row c.requires c.link-count.ensures c.loop-k.invariant c.loop-k-test.true

pub returns-in_err-parameter : goal.returns-in_err-parameter
returns-in_err-parameter c =
    rw (handed_on c.from_residual.ensures.1)
    (taking_stops c.requires c.link-count.ensures c.loop-k.invariant c.loop-k-test.true c.parameter.ensures
    c.in_err-parameter.was)

pub loop-k-preserved : goal.loop-k-preserved
loop-k-preserved c =
    taking_goes c.requires c.link-count.ensures c.loop-k.invariant c.loop-k-test.true c.parameter.ensures
    c.in_ok-parameter.was

pub returns : goal.returns
returns c = taking_ends c.requires c.link-count.ensures c.loop-k.invariant c.loop-k-test.false
