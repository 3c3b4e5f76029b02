-- `letter` looks whether there is a byte.
use mathlib.Core.Path.{◌∙◌}
use native.Mathlib.Omega.{arith}
use Rattle.tokens.proofs.Compared.{letter_none, letter_some}
use Rattle.tokens.specs.Shown.{text_of}
use Rattle.tokens.proofs.view.Part.letter.Goals as goal

pub returns-then-self-i : goal.returns-then-self-i
returns-then-self-i c =
    let a = c.args.self.now in (letter_none (text_of a.text.now) a.from a.to c.args.i a.inside c.if-self-i.true, omega arith)

pub returns : goal.returns
returns c =
    let a = c.args.self.now in
    (letter_some (text_of a.text.now) a.from a.to c.args.i a.inside c.if-self-i.false (c.from.ensures ∙ c.byte.ensures), omega arith)
