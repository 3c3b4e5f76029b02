use Rattle.grumpy.proofs.Profiling.{profile_is_short, profile_is_answered}
use Rattle.grumpy.proofs.profilings.profile_source.Goals as goal

pub returns-then-table-lt-TABLE : goal.returns-then-table-lt-TABLE
returns-then-table-lt-TABLE c =
    let a = c.args in
    rw c.nowhere.ensures (profile_is_short a.source.now a.edition _ c.if-table-lt-TABLE.true)

pub returns : goal.returns
returns c =
    let a = c.args in
    profile_is_answered a.source.now a.edition _ _ _ _ _ _ c.if-table-lt-TABLE.false c.examine_source-seen.ensures
    c.profile_or_refuse-answer.ensures c.clear.ensures
