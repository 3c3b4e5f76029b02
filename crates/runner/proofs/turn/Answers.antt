use Rattle.runner.proofs.Turning.{turn_any}
use Rattle.runner.proofs.turn.Goals as goal

pub given-requires : goal.given-requires
given-requires c =
    turn_any c.begun-m.ensures c.requires
