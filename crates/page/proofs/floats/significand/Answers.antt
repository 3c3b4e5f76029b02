-- `significand` goes by the exponent's field.
use Rattle.page.proofs.FloatTexts.{no_field, some_field}
use Rattle.page.proofs.floats.significand.Goals as goal

pub returns-then-bits-eq0 : goal.returns-then-bits-eq0
returns-then-bits-eq0 c =
    no_field c.args.bits c.if-bits-eq0.true

pub returns : goal.returns
returns c =
    some_field c.args.bits c.if-bits-eq0.false
