-- `tokens_of` goes from line to line, and keeps what is good so far.
use lib.ListN.{length}
use Prim.Native.Nat.{◌-◌}
use Rattle.stored.proofs.Reading.{Reached}
use Rattle.tokens.specs.Editions.{meant}
use Rattle.stored.proofs.tokens_of.Given as goal

abbrev pub invariant-loop-at : goal.invariant-loop-at
invariant-loop-at l = Reached (meant l.edition) l.stored l.initial.table l.table l.counted l.at l.count l.bytes

abbrev pub decreases-loop-at : goal.decreases-loop-at
decreases-loop-at l = length l.stored - l.at
