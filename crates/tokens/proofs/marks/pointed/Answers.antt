-- `pointed` goes by the edition.
use mathlib.Core.Path.{sym, ◌∙◌}
use Rattle.tokens.proofs.Editions.{by_edition}
use Rattle.tokens.proofs.PointMarks.{point_alone}
use Rattle.tokens.specs.Found.{IsMark}
use Rattle.tokens.specs.Shown.{text_of}
use Rattle.std.specs.Prelude.{None}
use Rattle.tokens.proofs.marks.pointed.Goals as goal

pub returns-in-One : goal.returns-in-One
returns-in-One c =
    let a = c.args in
    by_edition (λ voc. IsMark voc (text_of a.place.now.text.now) a.place.now.at None) c.in-One.is
    (point_alone c.args.place.now.inside c.requires.0 (sym c.args.place.now.is ∙ c.requires.1))
