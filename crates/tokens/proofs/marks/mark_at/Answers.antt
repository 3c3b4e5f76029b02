-- `mark_at` asks for a point: without one the marks are those of edition 1.
use mathlib.Core.Path.{◌∙◌}
use Rattle.tokens.proofs.PointMarks.{in_either}
use Rattle.tokens.specs.Shown.{text_of}
use Rattle.tokens.proofs.marks.mark_at.Goals as goal

pub returns : goal.returns
returns c =
    let a = c.args.place.now in
    in_either (text_of a.text.now) a.at a.inside c.requires (λ e. c.if-place-eq46.false (a.is ∙ e)) c.args.edition c.plain.result c.plain.ensures
