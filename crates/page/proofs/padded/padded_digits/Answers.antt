-- `padded_digits` puts digit by digit, the last first.
use lib.ListN.{length-replicate}
use Rattle.page.proofs.Padding.{padded_none, padded_more, padded_all}
use Rattle.page.proofs.padded.padded_digits.Goals as goal

pub loop-i-init : goal.loop-i-init
loop-i-init g c = padded_none _ (length-replicate g.row.N 48)

pub loop-i-preserved : goal.loop-i-preserved
loop-i-preserved g c = padded_more c.loop-i-test.true c.loop-i.auto.i c.loop-i.invariant

pub returns : goal.returns
returns g c = padded_all c.loop-i-test.false c.loop-i.invariant
