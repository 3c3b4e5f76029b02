use Rattle.rules.proofs.TellLaws.{handed_on}
use mathlib.Core.Path.{refl}
use Rattle.checker.proofs.ProgramLaws.{underway_starts, underway_listed, underway_stops, underway_goes, underway_ready, underway_ends}
use Rattle.checker.proofs.programs.program.Goals as goal

pub loop-k-init : goal.loop-k-init
loop-k-init c = underway_starts refl

pub function-requires : goal.function-requires
function-requires c = underway_listed c.loop-k.invariant c.loop-k-test.true c.requires

pub returns-in_err-function : goal.returns-in_err-function
returns-in_err-function c =
    rw (handed_on c.from_residual.ensures.1)
    (underway_stops c.loop-k.invariant c.loop-k-test.true c.function.ensures c.in_err-function.was)

pub loop-k-preserved : goal.loop-k-preserved
loop-k-preserved c =
    underway_goes c.loop-k.invariant c.loop-k-test.true c.function.ensures c.in_ok-function.was

pub type_at-requires : goal.type_at-requires
type_at-requires c = underway_ready c.loop-k.invariant c.loop-k-test.false c.requires

pub returns : goal.returns
returns c = underway_ends c.loop-k.invariant c.loop-k-test.false c.type_at.ensures
