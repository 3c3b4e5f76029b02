use native.Mathlib.Omega.{arith}
use Rattle.std.proofs.lemmas.Int.{ints}
use Rattle.tally.proofs.Payable.{somebody}
use Rattle.tally.proofs.paying.payable.Goals.{then-is_int, else-is_int, then-is_int-2, else-is_int-2}
use Rattle.tally.proofs.paying.payable.Goals as goal

pub returns-then-least-largest : goal.returns-then-least-largest
returns-then-least-largest c =
    elim c.if-is_int-2.branch [
      | then-is_int-2 w ↦ elim c.if-is_int.branch [
        | then-is_int v ↦ grind (arith, ints, somebody)
        | else-is_int v ↦ grind arith
      ]
      | else-is_int-2 w ↦ grind arith
    ]
