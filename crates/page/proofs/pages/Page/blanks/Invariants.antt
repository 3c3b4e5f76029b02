-- `blanks` puts byte by byte.
use lib.ListN.{take}
use Rattle.page.specs.Text.{Writes, each, byte_blank}
use Rattle.page.proofs.pages.Page.blanks.Given as goal

abbrev pub invariant-loop-b : goal.invariant-loop-b
invariant-loop-b l = Writes (each (byte_blank l.plain) (take l.b-index l.bytes)) l.initial.self l.self
