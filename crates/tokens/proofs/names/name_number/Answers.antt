-- `name_number` gives `putchar` a number of its own, and any other name the ordinal of its first token.
use mathlib.Core.Path.{refl, sym, ◌∙◌}
use Rattle.language.proofs.Text.Choices.{clash}
use Rattle.language.specs.Trees.{PUTCHAR}
use Rattle.tokens.proofs.Compared.{same_swap}
use Rattle.tokens.specs.Parts.{part_of}
use Rattle.tokens.proofs.names.name_number.Goals as goal

pub returns-then-spells : goal.returns-then-spells
returns-then-spells c =
    let e = same_swap (part_of c.args.name.now) PUTCHAR ∙ sym c.spells.ensures ∙ c.if-spells.true in
    (record { putchar = λ x. refl; first = λ x. absurd (clash e x) }, c.first_alike-ordinal.ensures.1)

pub returns : goal.returns
returns c =
    let e = same_swap (part_of c.args.name.now) PUTCHAR ∙ sym c.spells.ensures ∙ c.if-spells.false in
    (record { putchar = λ x. absurd (clash x e); first = λ x. c.first_alike-ordinal.ensures.0 }, c.first_alike-ordinal.ensures.1)
