use Rattle.runner.proofs.Looping.{turns_pass, turns_over}
use Rattle.runner.proofs.loops.turn.Goals as goal

pub returns-then-passes : goal.returns-then-passes
returns-then-passes c =
    turns_pass c.word-kind.ensures c.passes.ensures c.if-passes.true c.pass.ensures

pub returns : goal.returns
returns c =
    turns_over c.word-kind.ensures c.passes.ensures c.if-passes.false c.gives.ensures
