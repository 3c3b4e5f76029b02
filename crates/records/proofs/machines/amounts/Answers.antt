-- `amounts` puts the parts one behind the other.
use native.Mathlib.Omega.{arith}
use mathlib.Core.Path.{ap}
use mir.Facts.{to_z-of_z}
use mir.Syntax.{w64}
use mir.Val.{SFits}
use Rattle.language.specs.Tokens.{spell}
use Rattle.page.proofs.Adding.{being, ◌▸◌}
use Rattle.wording.specs.Fields.{signed_line}
use Rattle.records.specs.Machines.{amount_lines}
use Rattle.records.proofs.machines.amounts.Goals as goal

pub returns : goal.returns
unfolding amount_lines
returns c =
    let s = c.args.sums in
    let fits_sum : SFits w64 s.sum = record { sfits = omega arith } in
    let fits_least : SFits w64 s.least = record { sfits = omega arith } in
    let fits_largest : SFits w64 s.largest = record { sfits = omega arith } in
    let sum = being (ap (signed_line (spell "sum")) (to_z-of_z {w = w64} fits_sum)) c.amount.ensures in
    let least = being (ap (signed_line (spell "least")) (to_z-of_z {w = w64} fits_least)) c.amount-2.ensures in
    let largest = being (ap (signed_line (spell "largest")) (to_z-of_z {w = w64} fits_largest)) c.amount-3.ensures in
    sum ▸ least ▸ largest
