use Rattle.outlines.proofs.Answering.{outline_is_short, examined_rooted, outline_is}
use Rattle.outlines.proofs.outline.Goals as goal

pub returns-then-table-lt-TABLE : goal.returns-then-table-lt-TABLE
returns-then-table-lt-TABLE c =
    outline_is_short _ _ _ _ _ c.if-table-lt-TABLE.true

pub drawn-answer-requires : goal.drawn-answer-requires
drawn-answer-requires c =
    examined_rooted _ _ _ _ c.examine-seen.ensures

pub returns : goal.returns
returns c =
    outline_is _ _ _ _ _ _ _ c.if-table-lt-TABLE.false c.clear.ensures _ _ c.examine-seen.ensures c.drawn-answer.ensures
