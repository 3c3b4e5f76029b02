-- The loop's invariant: the bytes that are left match what is left of the name exactly where the whole does.
use mathlib.Core.Path.{◌≡◌}
use Prim.Native.Nat.{◌+◌, ◌-◌, ◌≤◌}
use lib.ListN.{length, drop}
use Rattle.tokens.specs.Shown.{text_of}
use Rattle.outlines.specs.Words.{byte_of, matches, spelled_in}
use Rattle.outlines.proofs.spelled.Given as goal

abbrev pub invariant-loop-i : goal.invariant-loop-i
invariant-loop-i l = (l.i ≤ length l.name) × (l.at + length l.name ≡ l.end)
    × (spelled_in (text_of l.text) l.at l.end l.name ≡ matches (byte_of (text_of l.text)) (l.at + l.i) (drop l.i l.name))
