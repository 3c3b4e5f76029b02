-- `name_number` gives `putchar` a number of its own, and any other name the ordinal of its first token.
use lib.Seq.{slice}
use Rattle.tokens.specs.Shown.{told}
use Rattle.stored.proofs.NameLaws.{putchar_told, numbered_putchar, numbered_first}
use Rattle.stored.proofs.names.name_number.Goals as goal

pub returns-then-spells : goal.returns-then-spells
returns-then-spells c =
    let a = c.args in
    let told-so = putchar_told (told (slice a.p a.q a.stored.now)) c.len.ensures c.spells.ensures c.if-spells.true in
    (numbered_putchar told-so, c.first_alike-ordinal.ensures.1)

pub returns : goal.returns
returns c =
    let a = c.args in
    let told-so = putchar_told (told (slice a.p a.q a.stored.now)) c.len.ensures c.spells.ensures c.if-spells.false in
    (numbered_first told-so c.first_alike-ordinal.ensures.0, c.first_alike-ordinal.ensures.1)
