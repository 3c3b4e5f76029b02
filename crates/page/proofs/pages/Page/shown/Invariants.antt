-- `shown` puts byte by byte.
use lib.ListN.{take}
use Rattle.page.specs.Text.{Writes, each, byte_shown}
use Rattle.page.proofs.pages.Page.shown.Given as goal

abbrev pub invariant-loop-b : goal.invariant-loop-b
invariant-loop-b l = Writes (each (byte_shown l.plain) (take l.b-index l.bytes)) l.initial.self l.self
