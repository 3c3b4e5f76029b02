-- `plain` looks for a mark of two bytes, and where there is none for one of one.
use Rattle.tokens.proofs.MarkBytes.{two_most, marked, unmarked, markless}
use Rattle.tokens.proofs.marks.plain.Goals as goal

pub returns-in-Some : goal.returns-in-Some
returns-in-Some c =
    marked c.args.place.now.inside c.requires 2 (two_most _ _) (rw c.args.place.now.is at c.in-Some.ensures)

pub returns-in_err-kind : goal.returns-in_err-kind
returns-in_err-kind c =
    let shorter = unmarked c.args.place.now.inside c.requires 1 (two_most _ _) (rw c.args.place.now.is at c.in_default.ensures) in
    rw c.from_residual.ensures (markless c.requires (unmarked c.args.place.now.inside c.requires 0 shorter (rw c.args.place.now.is at c.in_err-kind.ensures)))

pub returns : goal.returns
returns c =
    let shorter = unmarked c.args.place.now.inside c.requires 1 (two_most _ _) (rw c.args.place.now.is at c.in_default.ensures) in
    marked c.args.place.now.inside c.requires 1 shorter (rw c.args.place.now.is at c.in_ok-kind.ensures)
