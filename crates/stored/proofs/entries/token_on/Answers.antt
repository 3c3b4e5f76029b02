-- `token_on` looks at the longest piece at the begin of a line.
use Rattle.tokens.proofs.Editions.{laws_of}
use Rattle.stored.proofs.EntryLaws.{not_blank, not_all, not_right}
use Rattle.stored.proofs.entries.token_on.Goals as goal

pub returns-in_default : goal.returns-in_default
returns-in_default c =
    not_all (laws_of c.args.edition) c.requires (rw c.in-Ok-Token.field-0-is at c.in-Ok-Token.ensures)
    c.if-size-len.false c.len.ensures

pub returns-in-Ok-Space : goal.returns-in-Ok-Space
returns-in-Ok-Space c =
    not_blank (laws_of c.args.edition) c.requires (rw c.in-Ok-Space.field-0-is at c.in-Ok-Space.ensures)

pub returns-in_default-2 : goal.returns-in_default-2
returns-in_default-2 c =
    not_right (laws_of c.args.edition) c.requires (rw c.in_default.is at c.piece_at.ensures)
