use native.Mathlib.Nat.{le_refl}
use Rattle.runner.proofs.Promises.{some_from, goes_from}
use Rattle.runner.proofs.Looping.{opens_zero, opens_turns}
use Rattle.runner.proofs.loops.first.Goals as goal

pub returns-then-still : goal.returns-then-still
returns-then-still c =
    opens_zero c.still.ensures c.if-still.true c.word-place.ensures c.args.v c.halts.ensures

pub turn-requires : goal.turn-requires
turn-requires c =
    some_from (opens_turns c.still.ensures c.if-still.false) c.requires

pub returns : goal.returns
returns c =
    goes_from (opens_turns c.still.ensures c.if-still.false) (le_refl _) c.turn.ensures
