-- `spells` compares bytes of the right number with those that stand there.
use borrow.Author.Tests.{ne_eqb}
use mathlib.Core.Path.{◌∙◌}
use Rattle.tokens.proofs.Compared.{stands_same, length_same}
use Rattle.tokens.specs.Shown.{text_of}
use Rattle.tokens.proofs.view.Part.spells.Goals as goal

pub returns-else-bytes-self : goal.returns-else-bytes-self
returns-else-bytes-self c =
    let a = c.args.self.now in
    ne_eqb _ _ c.if-bytes-self.false ∙ length_same (text_of a.text.now) c.args.bytes.now a.from a.to a.inside c.if-bytes-self.false

pub returns-then-bytes-self : goal.returns-then-bytes-self
returns-then-bytes-self c =
    let a = c.args.self.now in
    c.stands_at.ensures ∙ stands_same (text_of a.text.now) c.args.bytes.now a.from a.to a.order a.inside c.if-bytes-self.true
