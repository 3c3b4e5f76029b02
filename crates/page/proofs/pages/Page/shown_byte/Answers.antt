-- `shown_byte` puts the byte, or four for it.
use mathlib.Core.Path.{sym, ◌∙◌}
use Rattle.page.proofs.Adding.{being}
use Rattle.page.proofs.Seen.{shown_hidden, shown_plain}
use Rattle.page.proofs.pages.Page.shown_byte.Goals as goal

pub returns-then-is_hidden : goal.returns-then-is_hidden
returns-then-is_hidden c =
    being
    (shown_hidden c.args.plain c.args.b (sym c.is_hidden.ensures ∙ c.if-is_hidden.true) c.hex.ensures
    c.hex-then-is_hidden.ensures) c.put.ensures

pub returns-else-is_hidden : goal.returns-else-is_hidden
returns-else-is_hidden c =
    being (shown_plain c.args.plain c.args.b (sym c.is_hidden.ensures ∙ c.if-is_hidden.false)) c.put_byte.ensures
