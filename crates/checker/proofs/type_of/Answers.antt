use mathlib.Core.Path.{◌∙◌}
use Rattle.checker.proofs.ProgramLaws.{answers}
use Rattle.checker.proofs.type_of.Goals as goal

pub returns : goal.returns
returns c = record {
  right = λ ts p h. answers p (c.program-answer.ensures.right ts p h);
  table = c.clear.ensures ∙ c.program-answer.ensures.kept.rest;
}
