-- `amount_of` takes an amount, or one too large.
use borrow.Author.Rules.{rules}
use mathlib.Core.Path.{◌∙◌}
use Rattle.records.proofs.Taken.{an_amount}
use Rattle.records.proofs.readings.amount_of.Goals as goal

pub returns : goal.returns
returns c =
    let e = c.unwrap_or.ensures ∙ an_amount c.args.name.now c.args.text.now c.amount.ensures in
    search rules
