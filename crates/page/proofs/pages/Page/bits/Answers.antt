-- `bits` puts digit by digit, the most significant first.
use Rattle.page.proofs.Adding.{nothing}
use Rattle.page.proofs.FloatTexts.{nibbles_more, nibbles_all}
use Rattle.page.specs.Floats.{hexadecimal}
use Rattle.page.proofs.pages.Page.bits.Goals as goal

pub loop-left-init : goal.loop-left-init
unfolding hexadecimal
loop-left-init c = nothing

pub loop-left-preserved : goal.loop-left-preserved
loop-left-preserved c =
    nibbles_more c.args.bits c.loop-left.left c.loop-left-test.true c.loop-left.auto.left c.upper.ensures c.loop-left.invariant
    c.put.ensures

pub returns : goal.returns
returns c = nibbles_all c.args.bits c.loop-left-test.false c.loop-left.invariant
