use Rattle.grumpy_c.specs.States.{state_in}
use Rattle.grumpy_c.proofs.states.read_state.Goals as goal

pub returns : goal.returns
unfolding state_in
returns c =
    cc
