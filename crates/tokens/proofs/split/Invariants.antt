-- `split` goes from piece to piece, and writes each token behind those before it.
use Prim.Native.Nat.{◌-◌}
use Rattle.tokens.proofs.Splitting.{Reached}
use Rattle.tokens.specs.Editions.{meant}
use Rattle.tokens.specs.Shown.{text_of}
use Rattle.tokens.proofs.split.Given as goal

abbrev pub invariant-loop-at : goal.invariant-loop-at
invariant-loop-at l = Reached (meant l.edition) (text_of l.text) l.initial.table l.table l.at l.count

abbrev pub decreases-loop-at : goal.decreases-loop-at
decreases-loop-at l = l.size - l.at
