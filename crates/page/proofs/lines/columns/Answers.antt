-- `columns` goes by whether the line is UTF-8.
use mathlib.Core.Path.{◌∙◌}
use Rattle.page.specs.Lines.{columns_of}
use Rattle.page.proofs.lines.columns.Goals as goal

pub returns-then-plain : goal.returns-then-plain
unfolding columns_of
returns-then-plain c =
    c.characters.ensures ∙ rw c.if-plain.true

pub returns : goal.returns
unfolding columns_of
returns c =
    rw c.if-plain.false
