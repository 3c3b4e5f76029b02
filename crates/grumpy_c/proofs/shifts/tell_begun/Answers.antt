use Rattle.grumpy_c.proofs.ToldShifts.{granted_told}
use Rattle.grumpy_c.proofs.shifts.tell_begun.Goals as goal

pub returns-in-Ok : goal.returns-in-Ok
returns-in-Ok c =
    granted_told c.args.long c.args.told _ _ c.in-Ok.is c.put.ensures
