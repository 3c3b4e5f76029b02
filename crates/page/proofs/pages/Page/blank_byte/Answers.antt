-- `blank_byte` puts one of four blanks.
use mathlib.Core.Path.{sym, ◌∙◌}
use Rattle.page.proofs.Adding.{being, nothing}
use Rattle.page.proofs.Seen.{blank_hidden, blank_tab, blank_inner, blank_one}
use Rattle.page.proofs.pages.Page.blank_byte.Goals as goal

pub returns-then-is_hidden : goal.returns-then-is_hidden
returns-then-is_hidden c =
    being (blank_hidden c.args.plain c.args.b (sym c.is_hidden.ensures ∙ c.if-is_hidden.true)) c.put.ensures

pub returns-then-b-eq9 : goal.returns-then-b-eq9
returns-then-b-eq9 c =
    being (blank_tab c.args.plain c.args.b (sym c.is_hidden.ensures ∙ c.if-is_hidden.false) c.if-b-eq9.true)
    c.put_byte.ensures

pub returns-then-not-is_inner : goal.returns-then-not-is_inner
returns-then-not-is_inner c =
    let h = sym c.is_hidden.ensures ∙ c.if-is_hidden.false in
    being (blank_one c.args.plain c.args.b h c.if-b-eq9.false (sym c.is_inner.ensures ∙ c.if-not-is_inner.true))
    c.put_byte-then-not-is_inner.ensures

pub returns-else-not-is_inner : goal.returns-else-not-is_inner
returns-else-not-is_inner c =
    let h = sym c.is_hidden.ensures ∙ c.if-is_hidden.false in
    being (blank_inner c.args.plain c.args.b h c.if-b-eq9.false (sym c.is_inner.ensures ∙ c.if-not-is_inner.false)) nothing
