-- `compare` compares bytes of one part with those of another, one after the other.
use Rattle.tokens.proofs.Compared.{alike_more, alike_less, alike_all, parted}
use Rattle.tokens.specs.Shown.{text_of}
use Rattle.tokens.proofs.forks.compare.Goals as goal

pub returns-then-size-other : goal.returns-then-size-other
returns-then-size-other c =
    let a = c.args.old.now in
    let b = c.args.new.now in
    parted (text_of a.text.now) a.from a.to (text_of b.text.now) b.from b.to a.inside b.inside c.if-size-other.true c.min.ensures

pub returns-then-byte : goal.returns-then-byte
returns-then-byte c =
    alike_less c.loop-i.invariant c.loop-i-test.true c.byte.ensures c.byte-in-loop-i.ensures c.if-byte.true

pub loop-i-preserved : goal.loop-i-preserved
loop-i-preserved c =
    alike_more c.loop-i.invariant c.loop-i-test.true c.byte.ensures c.byte-in-loop-i.ensures c.if-byte.false

pub returns : goal.returns
returns c =
    alike_all c.loop-i.invariant c.loop-i-test.false
