-- `points` looks for the longer of the marks that edition 2 adds, then for the other; edition 1 has none with a point.
use mathlib.Core.Path.{sym, ◌∙◌}
use Rattle.tokens.proofs.PointMarks.{through, upto, as_before, point_alone}
use Rattle.tokens.specs.Shown.{text_of}
use Rattle.std.specs.Prelude.{None}
use Rattle.tokens.proofs.marks.points.Goals as goal

pub returns-then-stands_at : goal.returns-then-stands_at
returns-then-stands_at c =
    through (text_of c.args.place.now.text.now) c.args.place.now.at c.args.place.now.inside c.requires.0 (sym c.stands_at.ensures ∙ c.if-stands_at.true)

pub returns-then-stands_at-2 : goal.returns-then-stands_at-2
returns-then-stands_at-2 c =
    let longer = sym c.stands_at.ensures ∙ c.if-stands_at.false in
    let a = c.args.place.now in
    upto (text_of a.text.now) a.at a.inside c.requires.0 longer (sym c.stands_at-2.ensures ∙ c.if-stands_at-2.true)

pub returns : goal.returns
returns c =
    let a = c.args.place.now in
    let none = point_alone a.inside c.requires.0 (sym a.is ∙ c.requires.1) in
    let clear = sym c.stands_at-2.ensures ∙ c.if-stands_at-2.false in
    as_before (text_of a.text.now) a.at a.inside c.requires.0 clear None none
