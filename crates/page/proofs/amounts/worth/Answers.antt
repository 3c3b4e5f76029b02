-- `worth` goes by the three stretches in which the digits of hex lie.
use mathlib.Core.Path.{sym, ◌∙◌, ap}
use native.Mathlib.Omega.{arith}
use Prim.Native.Nat.{◌+◌}
use Rattle.language.proofs.Text.Classes.{worth_digit, worth_large, worth_small}
use Rattle.page.proofs.amounts.worth.Goals as goal

pub returns-in-0-to-57 : goal.returns-in-0-to-57
returns-in-0-to-57 c = (c.saturating_sub.ensures ∙ sym (worth_digit c.args.b (omega arith)), omega arith)

pub returns-in-58-to-70 : goal.returns-in-58-to-70
returns-in-58-to-70 c =
    let e = ap (λ x. x + 10) c.saturating_sub-in-58-to-70.ensures in
    (e ∙ sym (worth_large c.args.b (omega arith) (omega arith)), omega arith)

pub returns-in_default : goal.returns-in_default
returns-in_default c =
    let e = ap (λ x. x + 10) c.saturating_sub-in_default.ensures in
    (e ∙ sym (worth_small c.args.b (omega arith)), omega arith)
