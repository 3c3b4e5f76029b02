-- `line_end` is where `pairs` has the line end.
use Rattle.page.proofs.Feeds.{ends_ahead}
use Rattle.page.proofs.lines.line_end.Goals as goal

pub returns : goal.returns
returns c =
    let a = c.args in ends_ahead a.source.now a.at _ c.end_of.ensures
