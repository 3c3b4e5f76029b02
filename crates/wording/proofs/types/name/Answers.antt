-- `name` puts what the type is of, and its `ref`s.
use Rattle.page.proofs.Adding.{being, ◌▸◌}
use Rattle.wording.specs.Types.{type_words}
use Rattle.wording.proofs.types.name.Goals as goal

pub returns : goal.returns
unfolding type_words
returns c = being c.base.ensures c.put.ensures ▸ c.refs.ensures
