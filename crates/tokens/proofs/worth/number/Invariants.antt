-- `number` reads the digits of a run one by one, where no point goes on with them.
use Rattle.tokens.proofs.Digits.{Read}
use Rattle.tokens.specs.Shown.{text_of}
use Rattle.tokens.proofs.worth.number.Given as goal

abbrev pub invariant-loop-i : goal.invariant-loop-i
invariant-loop-i l = Read l.base (text_of l.text) l.from l.end l.i l.value
