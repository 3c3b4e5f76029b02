-- What a word stands for, by the row in it.
use mathlib.Core.Path.{sym, ◌∙◌}
use Rattle.phrases.proofs.Words.{word_none, word_tree}
use Rattle.phrases.proofs.parts.Read.part.Goals as goal

pub returns-then-free-eq0 : goal.returns-then-free-eq0
returns-then-free-eq0 c =
    sym (word_none c.self.inside.word c.if-free-eq0.true) ∙ c.self.view_is

pub returns : goal.returns
returns c =
    sym (word_tree c.self.inside.word c.if-free-eq0.false) ∙ c.self.view_is
