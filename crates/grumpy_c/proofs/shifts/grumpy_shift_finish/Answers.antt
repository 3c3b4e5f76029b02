use Rattle.grumpy_c.proofs.ToldShifts.{finished_c}
use Rattle.grumpy_c.proofs.shifts.grumpy_shift_finish.Goals as goal

pub returns : goal.returns
returns c =
    finished_c _ _ _ _ c.finish-finished.result.told c.finish-finished.result.sums c.read_state.result _ c.if-state-lt-STATE.false
    c.if-report-lt-FINISH.false c.read_state.ensures
    c.finish-finished.ensures c.ending_number-number.ensures c.tell_finished.ensures
