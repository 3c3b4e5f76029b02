-- `padded_digits` puts digit by digit, the last first.
use Rattle.page.proofs.Padding.{Padded}
use Rattle.page.proofs.padded.padded_digits.Given as goal

abbrev pub invariant-loop-i : goal.invariant-loop-i
invariant-loop-i g l = Padded g.row.N l.n l.i l.left l.digits
