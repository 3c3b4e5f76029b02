use Rattle.grumpy_c.proofs.ToldShifts.{began_c}
use Rattle.grumpy_c.proofs.shifts.grumpy_shift_begin.Goals as goal

pub returns : goal.returns
returns c =
    began_c _ _ _ _ _ _ _ _ _ _ _ c.begin-answer.result c.keeps_all.result _ c.if-state-lt-STATE.false c.if-report-lt-BEGIN.false
    c.begin-answer.ensures c.keeps_all.ensures
    c.leave.ensures c.tell_begun.ensures
