use mathlib.Core.Logic.{inl, inr}
use Rattle.grumpy.proofs.Services.{run_is_short, run_is_large, run_is_answered}
use Rattle.grumpy.proofs.run_source.Goals as goal

pub returns-then-table-lt-TABLE : goal.returns-then-table-lt-TABLE
returns-then-table-lt-TABLE c =
    let a = c.args in
    rw c.nowhere.ensures (run_is_short a.source.now a.edition _ _ _ _ (inl c.if-table-lt-TABLE.true))

pub returns-then-work-lt-WORK : goal.returns-then-work-lt-WORK
returns-then-work-lt-WORK c =
    let a = c.args in
    rw c.nowhere-then-work-lt-WORK.ensures
    (run_is_short a.source.now a.edition _ _ _ _ (inr c.if-work-lt-WORK.true))

pub returns-then-allowance-gt-ALLOWANCE : goal.returns-then-allowance-gt-ALLOWANCE
returns-then-allowance-gt-ALLOWANCE c =
    let a = c.args in
    rw c.nowhere-then-allowance-gt-ALLOWANCE.ensures
    (run_is_large a.source.now a.edition _ _ _ _ _ _ c.if-table-lt-TABLE.false c.if-work-lt-WORK.false
    c.if-allowance-gt-ALLOWANCE.true c.clear.ensures c.clear-then-allowance-gt-ALLOWANCE.ensures)

pub returns : goal.returns
returns c =
    let x = c.run_or_refuse-answer.ensures in
    let a = c.args in
    run_is_answered a.source.now a.edition _ _ _ _ _ _ _ _ _ _ _ c.if-table-lt-TABLE.false c.if-work-lt-WORK.false
    c.if-allowance-gt-ALLOWANCE.false c.examine_source-seen.ensures x c.clear-2.ensures
