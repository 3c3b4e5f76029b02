use Rattle.runner.proofs.Turning.{gives_of}
use Rattle.runner.proofs.given.Goals as goal

pub give-requires : goal.give-requires
give-requires c =
    gives_of c.args.table.now c.args.work.now c.args.out.now c.args.n
    c.in-Give.is c.requires
