use Rattle.shift.proofs.Combined.{added, not_added}
use Rattle.shift.proofs.together.Goals as goal

pub returns-then-addable : goal.returns-then-addable
returns-then-addable c =
    added c.args.a c.args.b c.addable.ensures c.if-addable.true c.both-sums.ensures

pub returns : goal.returns
returns c =
    not_added c.args.a c.args.b c.addable.ensures c.if-addable.false c.overfull.ensures
