-- `float_number` goes on behind the point, and counts the bytes.
use native.Mathlib.Omega.{arith}
use Rattle.tokens.proofs.Editions.{laws_of}
use Rattle.tokens.proofs.FoundTokens.{point_inside, float_long, float_decimal, float_token}
use Rattle.tokens.proofs.Views.{text_long}
use Rattle.tokens.proofs.worth.float_number.Goals as goal

pub overflow_add-point : goal.overflow_add-point
overflow_add-point c =
    let a = c.args in
    omega (arith, point_inside c.requires, text_long a.text.now, c.well_formed)

pub returns-then-end-at : goal.returns-then-end-at
returns-then-end-at c =
    float_long (laws_of c.args.edition) c.requires c.ends-end.ensures c.if-end-at.true

pub bits-bits-requires : goal.bits-bits-requires
bits-bits-requires c =
    float_decimal (laws_of c.args.edition) c.requires c.ends-end.ensures c.if-end-at.false

pub returns : goal.returns
returns c =
    float_token (laws_of c.args.edition) c.requires c.ends-end.ensures c.if-end-at.false c.bits-bits.ensures
