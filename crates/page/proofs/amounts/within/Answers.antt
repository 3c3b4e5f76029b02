-- `within` looks at the digits, and then at their number.
use mathlib.Core.Path.{sym, ◌∙◌}
use Rattle.page.proofs.Spelling.{no_digits, small_enough, too_large}
use Rattle.page.proofs.amounts.within.Goals as goal

pub returns-then-not-is_number : goal.returns-then-not-is_number
returns-then-not-is_number c =
    no_digits c.args.most c.args.word.now (sym c.is_number.ensures ∙ c.if-not-is_number.true)

pub returns-then-value-most : goal.returns-then-value-most
returns-then-value-most c =
    small_enough c.args.most c.args.word.now (sym c.is_number.ensures ∙ c.if-not-is_number.false)
    c.spelled-value.ensures c.if-value-most.true

pub returns-else-value-most : goal.returns-else-value-most
returns-else-value-most c =
    too_large c.args.most c.args.word.now (sym c.is_number.ensures ∙ c.if-not-is_number.false)
    c.spelled-value.ensures c.if-value-most.false
