use Rattle.grumpy.proofs.Rewriting.{served_short, served_answered}
use Rattle.grumpy.proofs.writings.written.Goals as goal

pub returns-then-table-lt-TABLE : goal.returns-then-table-lt-TABLE
returns-then-table-lt-TABLE g c =
    rw c.nowhere.ensures (served_short g.W.Writes.tells g.met.W.Writes.lawful _ _ _ _ c.if-table-lt-TABLE.true)

pub returns : goal.returns
returns g c =
    let x = c.write_or_refuse-answer.ensures in
    served_answered g.W.Writes.tells g.met.W.Writes.lawful _ _ _ _ _ _ _ _ _
    c.if-table-lt-TABLE.false c.examine-seen.ensures x c.clear.ensures
