-- `difference` compares byte with byte.
use Rattle.tokens.proofs.Compared.{Alongside}
use Rattle.tokens.proofs.forks.difference.Given as goal

abbrev pub invariant-loop-i : goal.invariant-loop-i
invariant-loop-i l = Alongside l.old l.new l.i
