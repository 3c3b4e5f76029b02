-- `stands_within` compares bytes with the text, one after the other.
use native.Mathlib.Omega.{arith}
use Rattle.tokens.proofs.Compared.{agrees_more, agrees_less, agrees_all}
use Rattle.tokens.proofs.Views.{text_long}
use Rattle.tokens.proofs.view.Text.stands_within.Goals as goal

pub overflow_add-at : goal.overflow_add-at
overflow_add-at c =
    let a = c.args in
    omega (arith, c.requires, c.loop-i-test.true, text_long a.self.now, c.well_formed)

pub returns-then-byte-bytes : goal.returns-then-byte-bytes
returns-then-byte-bytes c =
    agrees_less c.loop-i.invariant c.loop-i-test.true
    c.byte.ensures c.if-byte-bytes.true

pub loop-i-preserved : goal.loop-i-preserved
loop-i-preserved c =
    agrees_more c.loop-i.invariant c.loop-i-test.true
    c.byte.ensures c.if-byte-bytes.false

pub returns : goal.returns
returns c =
    agrees_all c.loop-i.invariant c.loop-i-test.false
