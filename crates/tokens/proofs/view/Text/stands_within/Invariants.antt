-- `stands_within` compares bytes with the text, one after the other.
use Rattle.tokens.proofs.Compared.{Agrees}
use Rattle.tokens.specs.Shown.{text_of}
use Rattle.tokens.proofs.view.Text.stands_within.Given as goal

abbrev pub invariant-loop-i : goal.invariant-loop-i
invariant-loop-i l = Agrees (text_of l.self) l.at l.bytes l.i
