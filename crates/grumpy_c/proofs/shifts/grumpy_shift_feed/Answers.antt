use Rattle.grumpy_c.proofs.ToldShifts.{fed_c}
use Rattle.grumpy_c.proofs.shifts.grumpy_shift_feed.Goals as goal

pub returns : goal.returns
returns c =
    fed_c _ _ _ _ _ _ _ _ _ _ _ _ _ c.feed-answer.result c.read_state-before.result c.is_err.result _
    c.if-state-lt-STATE.false c.if-report-lt-FEED.false c.read_state-before.ensures
    c.feed-answer.ensures c.is_err.ensures.value c.leave.ensures c.fed_number-number.ensures c.put.ensures
