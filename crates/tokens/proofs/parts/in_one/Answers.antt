-- `in_one` cuts the part out of the sheet in which it lies.
use Rattle.tokens.proofs.SheetParts.{in_first, in_second}
use Rattle.tokens.proofs.parts.in_one.Goals as goal

pub returns-then-to-size : goal.returns-then-to-size
returns-then-to-size c =
    in_first c.args.first.now c.args.second.now c.args.from c.args.to c.if-to-size.true

pub returns-then-size-from : goal.returns-then-size-from
returns-then-size-from c =
    in_second c.args.first.now c.args.second.now c.args.from c.args.to c.requires.0 c.if-size-from.true
