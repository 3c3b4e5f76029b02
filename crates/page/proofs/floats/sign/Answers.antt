-- `sign` puts a dash, or nothing.
use Rattle.page.proofs.Adding.{being, nothing}
use Rattle.page.proofs.FloatTexts.{sign_none, sign_minus}
use Rattle.page.proofs.floats.sign.Goals as goal

pub returns-then-bits-ge-SIGN : goal.returns-then-bits-ge-SIGN
returns-then-bits-ge-SIGN c = being (sign_minus c.args.bits c.if-bits-ge-SIGN.true) c.put.ensures

pub returns-else-bits-ge-SIGN : goal.returns-else-bits-ge-SIGN
returns-else-bits-ge-SIGN c = being (sign_none c.args.bits c.if-bits-ge-SIGN.false) nothing
