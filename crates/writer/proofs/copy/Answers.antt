-- `copy` goes byte by byte: so far the first ones are put.
use borrow.Author.Rules.{rules}
use native.Mathlib.Omega.{arith}
use Rattle.writer.proofs.Parts.{copied_one, copied_all}
use Rattle.writer.proofs.copy.Goals as goal

pub loop-i-preserved : goal.loop-i-preserved
loop-i-preserved c =
    let v = c.loop-i.invariant in
    let a = c.args in
    let next = copied_one a.out.now a.source.now a.from a.to a.at c.loop-i.i (omega arith) c.requires.inside (omega arith) v.1 in
    (search rules, next)

pub returns : goal.returns
returns c =
    let v = c.loop-i.invariant in
    let a = c.args in
    copied_all a.out.now a.source.now _ a.from a.to a.at c.loop-i.i c.requires.inside (omega arith) (omega arith) v.1
