use native.Mathlib.Omega.{arith}
use Rattle.shift.proofs.Admitting.{asked_short, asked_large, asked_text}
use lib.ListN.{length}
use mathlib.Core.Logic.{◌⊎◌, inl, inr}
use Prim.Native.Nat.{◌<◌}
use Rattle.layout.proofs.Wiped.{zeros_cleared}
use mathlib.Core.Path.{◌∙◌}
use Rattle.language.specs.Sizes.{TABLE, WORK}
use Rattle.shift.proofs.asking.asked.Goals as goal
use Rattle.shift.proofs.asking.asked.Goals.{then-table-lt-TABLE-via-then-table-lt-TABLE, then-table-lt-TABLE-via-else-table-lt-TABLE+then-work-lt-WORK}

pub returns-then-table-lt-TABLE : goal.returns-then-table-lt-TABLE
returns-then-table-lt-TABLE c =
    let short : (length c.args.table.now < TABLE) ⊎ (length c.args.work.now < WORK) =
    elim c.then-table-lt-TABLE.branch [
      | then-table-lt-TABLE-via-then-table-lt-TABLE w ↦ inl (omega arith)
      | then-table-lt-TABLE-via-else-table-lt-TABLE+then-work-lt-WORK w ↦ inr (omega arith)
    ]
    in
    asked_short _ _ _ _ _ _ short c.front.ensures

pub returns-then-allowance-gt-ALLOWANCE : goal.returns-then-allowance-gt-ALLOWANCE
returns-then-allowance-gt-ALLOWANCE c =
    let a = c.args in
    asked_large _ _ _ _ _ _ _ _ (omega arith) (omega arith) (omega arith) c.front-then-allowance-gt-ALLOWANCE.ensures
    (c.clear-then-allowance-gt-ALLOWANCE.ensures ∙ zeros_cleared TABLE a.table.now (omega arith))
    (c.clear.ensures ∙ zeros_cleared WORK a.work.now (omega arith))

pub returns : goal.returns
returns c =
    let a = c.args in
    asked_text _ _ _ _ _ _ _ _ (omega arith) (omega arith) (omega arith) c.text.ensures
    (c.clear.ensures ∙ zeros_cleared WORK a.work.now (omega arith))
