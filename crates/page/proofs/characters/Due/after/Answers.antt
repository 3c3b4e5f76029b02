-- `after` goes by whether a character begins.
use borrow.Author.Tests.{eq-eqb, ne_eqb}
use Rattle.page.specs.Characters.{more_next, low_next, high_next}
use Rattle.page.proofs.characters.Due.after.Goals as goal

pub returns-then-self-eq0 : goal.returns-then-self-eq0
unfolding more_next low_next high_next
returns-then-self-eq0 c =
    let e = eq-eqb c.args.self.bytes 0 c.if-self-eq0.true in
    record { bytes = rw e c.more.ensures; least = rw e c.low.ensures; most = rw e c.high.ensures }

pub returns : goal.returns
unfolding more_next low_next high_next
returns c = let e = ne_eqb c.args.self.bytes 0 c.if-self-eq0.false in record { bytes = rw e; least = rw e; most = rw e }
