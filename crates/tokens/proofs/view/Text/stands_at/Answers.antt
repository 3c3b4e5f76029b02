-- `stands_at` compares bytes with the text, one after the other.
use Rattle.tokens.proofs.Compared.{agrees_more, agrees_less, agrees_all}
use Rattle.tokens.proofs.view.Text.stands_at.Goals as goal

pub returns-then-ahead-bytes : goal.returns-then-ahead-bytes
returns-then-ahead-bytes c =
    agrees_less c.loop-i.invariant c.loop-i-test.true
    c.ahead.ensures c.if-ahead-bytes.true

pub loop-i-preserved : goal.loop-i-preserved
loop-i-preserved c =
    agrees_more c.loop-i.invariant c.loop-i-test.true
    c.ahead.ensures c.if-ahead-bytes.false

pub returns : goal.returns
returns c =
    agrees_all c.loop-i.invariant c.loop-i-test.false
