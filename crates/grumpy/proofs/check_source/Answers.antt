use Rattle.grumpy.proofs.Handing.{handed_on}
use Rattle.grumpy.proofs.Services.{check_is_short, check_is_passed, check_is_refused}
use Rattle.grumpy.proofs.check_source.Goals as goal

pub returns-then-table-lt-TABLE : goal.returns-then-table-lt-TABLE
returns-then-table-lt-TABLE c =
    let a = c.args in
    rw c.nowhere.ensures (check_is_short a.source.now a.edition _ c.if-table-lt-TABLE.true)

pub returns : goal.returns
returns c =
    let a = c.args in
    check_is_passed a.source.now a.edition _ _ _ _ c.examine_source-seen.ensures
    c.if-table-lt-TABLE.false c.clear.ensures _ c.in_ok-passed.was

pub returns-in_err-passed : goal.returns-in_err-passed
returns-in_err-passed c =
    let a = c.args in
    rw (handed_on c.from_residual.ensures.1)
    (check_is_refused a.source.now a.edition _ _ _ _ c.examine_source-seen.ensures c.if-table-lt-TABLE.false
    c.clear.ensures _ c.in_err-passed.was)
