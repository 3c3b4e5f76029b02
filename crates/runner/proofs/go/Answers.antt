use Rattle.runner.proofs.go.Goals as goal

pub turn-next-requires : goal.turn-next-requires
turn-next-requires c =
    record { q = c.requires.q; holds = c.loop-work.invariant.2 c.requires.q c.requires.holds }
