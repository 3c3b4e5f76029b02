use Rattle.grumpy.proofs.Runs.{left_few, executed_so}
use Rattle.grumpy.proofs.outcomes.execute.Goals as goal

pub overflow_sub-used : goal.overflow_sub-used
overflow_sub-used c = left_few c.run-done.ensures c.requires

pub returns-in-Ok : goal.returns-in-Ok
returns-in-Ok c = executed_so c.run-done.ensures c.in-Ok.is

pub returns-in-Err : goal.returns-in-Err
returns-in-Err c = executed_so c.run-done.ensures c.in-Err.is
