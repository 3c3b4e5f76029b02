use Rattle.sheets.proofs.Layers.{program_held, read_program, read_none}
use Rattle.sheets.proofs.read.Goals as goal

pub typed-requires : goal.typed-requires
typed-requires c =
    program_held _ _ _ c.requires _ c.in-Ok.ensures

pub returns-in-Ok : goal.returns-in-Ok
returns-in-Ok c =
    read_program _ _ _ c.requires _ _ _ c.in-Ok.ensures c.typed.ensures

pub returns-in-Err : goal.returns-in-Err
returns-in-Err c =
    read_none _ _ _ c.requires _ c.in-Err.ensures
