use Rattle.layout.specs.Values.{meant}
use Rattle.machine.proofs.Computing.{does_left, does_other}
use Rattle.machine.proofs.operations.on_floats.Goals as goal
use Rattle.machine.proofs.operations.on_floats.Goals.{in_default-via-in-Some+in_default, in_default-via-in_default}

pub returns-in_default : goal.returns-in_default
returns-in_default c =
    let a = c.args in
    elim c.in_default.branch [
      | in_default-via-in-Some+in_default w ↦
          does_left a.op (meant a.a) (meant a.b) c.requires.0 c.requires.1 _ w.in_default.ensures w.in_default.ensures'
      | in_default-via-in_default w ↦
          does_other a.op (meant a.a) (meant a.b) c.requires.0 c.requires.1 _ w.in_default.ensures-1
    ]
