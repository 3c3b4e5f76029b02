-- `difference` compares byte with byte.
use mathlib.Core.Path.{refl}
use Rattle.tokens.proofs.Compared.{whole_more, whole_less, whole_all}
use Rattle.tokens.proofs.forks.difference.Goals as goal

pub returns-then-old-i : goal.returns-then-old-i
returns-then-old-i c = whole_less c.loop-i.invariant c.loop-i-test.true refl refl c.if-old-i.true

pub loop-i-preserved : goal.loop-i-preserved
loop-i-preserved c = whole_more c.loop-i.invariant c.loop-i-test.true refl refl c.if-old-i.false

pub returns : goal.returns
returns c = whole_all c.loop-i.invariant c.loop-i-test.false
