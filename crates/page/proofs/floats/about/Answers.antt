-- `about` puts a mark, or nothing.
use mathlib.Core.Path.{sym, ◌∙◌}
use Rattle.page.proofs.Adding.{being, nothing}
use Rattle.page.proofs.FloatTexts.{about_none, about_more}
use Rattle.page.proofs.floats.about.Goals as goal

pub returns-then-not-exact : goal.returns-then-not-exact
returns-then-not-exact c = being (about_more c.args.q c.args.s (sym c.exact.ensures ∙ c.if-not-exact.true)) c.put.ensures

pub returns-else-not-exact : goal.returns-else-not-exact
returns-else-not-exact c = being (about_none c.args.q c.args.s (sym c.exact.ensures ∙ c.if-not-exact.false)) nothing
