use mir.Syntax.{w32}
use mir.Val.{SFits}
use Rattle.machine.proofs.Counters.{still_is}
use borrow.Author.Rules.{rules}
use Rattle.machine.proofs.counting.still.Goals as goal

pub returns : goal.returns
returns c = let f : SFits w32 c.int.result = search rules in still_is f c.int.ensures
