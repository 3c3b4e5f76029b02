-- `line_start` is where `pairs` has the line begin.
use Rattle.page.proofs.Feeds.{starts_behind}
use Rattle.page.proofs.lines.line_start.Goals as goal

pub returns : goal.returns
returns c =
    let a = c.args in starts_behind a.source.now a.at _ c.requires c.begin_of.ensures
