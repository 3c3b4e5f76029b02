use Rattle.runner.proofs.Turning.{begins_of}
use Rattle.runner.proofs.begun.Goals as goal

pub begin-requires : goal.begin-requires
begin-requires c =
    begins_of c.args.table.now c.args.work.now c.args.out.now c.args.n
    c.in-Begin.is c.requires
