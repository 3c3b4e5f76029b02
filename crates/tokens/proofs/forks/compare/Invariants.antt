-- `compare` compares bytes of one part with those of another, one after the other.
use Rattle.tokens.proofs.Compared.{Alike}
use Rattle.tokens.specs.Shown.{text_of}
use Rattle.tokens.proofs.forks.compare.Given as goal

abbrev pub invariant-loop-i : goal.invariant-loop-i
invariant-loop-i l = Alike (text_of l.old.text.now) l.old.from l.old.to (text_of l.new.text.now) l.new.from l.new.to l.i
