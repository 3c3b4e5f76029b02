-- `name` shows the bytes as the name can be read.
use mathlib.Core.Path.{sym}
use Rattle.wording.specs.Fields.{name_words}
use Rattle.wording.proofs.fields.name.Goals as goal

pub returns : goal.returns
unfolding name_words
returns c =
    rw (sym c.readable-plain.ensures) c.shown.ensures
