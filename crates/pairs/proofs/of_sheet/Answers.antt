-- `of_sheet` tells the line around a byte, and at the end the empty part.
use mathlib.Core.Path.{sym}
use Rattle.language.proofs.Pairs.Places.{sheet_end}
use Rattle.pairs.proofs.Spans.{spot_line}
use Rattle.pairs.proofs.of_sheet.Goals as goal

pub returns-then-at-sheet : goal.returns-then-at-sheet
returns-then-at-sheet c =
    let a = c.args in
    spot_line a.number a.sheet.now a.at _ _ c.begin_of.ensures c.end_of.ensures c.if-at-sheet.true

pub returns-else-at-sheet : goal.returns-else-at-sheet
returns-else-at-sheet c =
    let a = c.args in sym (sheet_end a.number a.sheet.now a.at c.if-at-sheet.false)
