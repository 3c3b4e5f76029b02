-- `words` goes by the case.
use Rattle.page.proofs.Adding.{being}
use Rattle.wording.specs.Words.{cause_words}
use mathlib.Core.Path.{sym, ap, ◌∙◌}
use Rattle.wording.proofs.words.words.Goals as goal

pub returns-in-Refused : goal.returns-in-Refused
unfolding cause_words
returns-in-Refused c = being (c.refusal.ensures ∙ ap cause_words (sym c.in-Refused.is)) c.put.ensures

pub returns-in-Called : goal.returns-in-Called
unfolding cause_words
returns-in-Called c = being (c.called.ensures ∙ ap cause_words (sym c.in-Called.is)) c.put-in-Called.ensures

pub returns-in-Stopped : goal.returns-in-Stopped
unfolding cause_words
returns-in-Stopped c = being (c.stop.ensures ∙ ap cause_words (sym c.in-Stopped.is)) c.put-in-Stopped.ensures
