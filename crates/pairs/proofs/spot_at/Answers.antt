-- `spot_at` finds the sheet that holds a byte of the joined text.
use mathlib.Core.Path.{sym, ◌∙◌}
use Rattle.language.proofs.Pairs.Places.{place_first}
use Rattle.pairs.proofs.Spans.{spot_second}
use Rattle.pairs.proofs.spot_at.Goals as goal

pub returns-then-at-size : goal.returns-then-at-size
returns-then-at-size c =
    let a = c.args in
    c.of_sheet.ensures ∙ sym (place_first a.first.now a.second.now a.at c.if-at-size.true)

pub returns : goal.returns
returns c =
    let a = c.args in
    c.of_sheet-2.ensures ∙ spot_second a.first.now a.second.now a.at c.if-at-size.false
