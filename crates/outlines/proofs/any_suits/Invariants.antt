-- The loop's invariant: one of the functions that are left suits exactly where one of all does.
use mathlib.Core.Bool.{Bool}
use mathlib.Core.Path.{◌≡◌}
use Prim.Native.Nat.{ℕ, ◌-◌, ◌≤◌}
use Rattle.tokens.specs.Shown.{text_of}
use Rattle.outlines.specs.Reports.{wanted_by}
use Rattle.outlines.specs.Words.{any_from}
use Rattle.outlines.proofs.any_suits.Given as goal

abbrev pub invariant-loop-k : goal.invariant-loop-k
invariant-loop-k l =
    let any : ℕ → ℕ → Bool = any_from (text_of l.text) l.table (wanted_by l.sought) in
    (l.k ≤ l.seen) × (any 0 l.seen ≡ any l.k (l.seen - l.k))
