-- `all_digits` reads the bytes of a float number one by one, and passes over the point.
use Rattle.tokens.proofs.Decimals.{Read}
use Rattle.tokens.specs.Shown.{text_of}
use Rattle.tokens.proofs.floats.all_digits.Given as goal

abbrev pub invariant-loop-i : goal.invariant-loop-i
invariant-loop-i l = Read (text_of l.text) l.at l.point l.end l.i l.value
